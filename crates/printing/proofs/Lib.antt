pub mod LineLaws
pub mod ShiftLaws
pub mod FigureLaws
pub mod CaseLaws
