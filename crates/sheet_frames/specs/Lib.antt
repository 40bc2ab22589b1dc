pub mod Numbers
pub mod Headers
