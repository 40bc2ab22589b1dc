pub mod Moves
pub mod Writing
pub mod Records
pub mod Handing
