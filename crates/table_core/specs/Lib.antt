pub mod Keepers
pub mod Memory
pub mod Inside
pub mod Tables
pub mod Stores
pub mod Shown
