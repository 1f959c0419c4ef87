pub mod First
pub mod Sessions
