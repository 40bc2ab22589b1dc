pub mod ProgramLaws
pub mod Outcomes
