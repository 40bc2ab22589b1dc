pub mod Lines
pub mod Figuring
pub mod Cases
