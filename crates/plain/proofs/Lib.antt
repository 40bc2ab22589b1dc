pub mod WindowLaws
pub mod ValueLaws
pub mod LoopLaws
pub mod JudgeLaws
pub mod Outcomes
