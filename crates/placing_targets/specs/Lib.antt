pub mod Met
pub mod Rules
