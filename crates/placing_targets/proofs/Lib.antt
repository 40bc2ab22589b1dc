pub mod MetLaws
pub mod RuleLaws
