pub mod PassLaws
pub mod Outcomes
pub mod SpreadLaws
pub mod KindLaws
