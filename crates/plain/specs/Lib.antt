pub mod Looping
pub mod Evaluating
