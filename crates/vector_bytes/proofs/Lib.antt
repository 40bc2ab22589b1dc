pub mod PairLaws
pub mod SpliceLaws
pub mod SplatLaws
