pub mod LineLaws
pub mod AddressLaws
pub mod BareLaws
pub mod StepLaws
