pub mod Outcomes
pub mod ReadyLaws
