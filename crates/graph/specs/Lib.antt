pub mod Links
pub mod Headers
pub mod Forms
pub mod NodeTables
pub mod Linking
