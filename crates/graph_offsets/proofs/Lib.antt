pub mod JudgeLaws
pub mod CheckLaws
pub mod Outcomes
