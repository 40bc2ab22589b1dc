pub mod LaneLaws
