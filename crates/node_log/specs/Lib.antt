pub mod Logs
pub mod Pasts
