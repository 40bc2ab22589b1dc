pub mod HeaderLaws
pub mod LineLaws
pub mod SheetLaws
pub mod Outcomes
