pub mod PlanLaws
pub mod Outcomes
