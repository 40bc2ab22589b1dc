pub mod Packed
pub mod Given
pub mod Programs
