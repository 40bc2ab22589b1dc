pub mod Cursors
pub mod Left
