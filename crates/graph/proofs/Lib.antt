pub mod LinkLaws
pub mod InputLaws
pub mod RowChecks
pub mod HeaderLaws
pub mod Outcomes
pub mod LinkedLaws
