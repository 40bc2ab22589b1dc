pub mod Writing
pub mod Programs
