pub mod Places
pub mod Stale
