pub mod DigitLaws
pub mod FrameLaws
