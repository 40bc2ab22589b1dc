pub mod WritingLaws
pub mod ExpressionLaws
pub mod CountLaws
pub mod SectionLaws
pub mod ProgramLaws
pub mod TranslateLaws
pub mod Outcomes
