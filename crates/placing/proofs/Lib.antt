pub mod MoveLaws
pub mod RecordLaws
pub mod RowLaws
pub mod DominantLaws
pub mod HandingLaws
pub mod AnswerLaws
pub mod Outcomes
