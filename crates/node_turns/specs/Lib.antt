pub mod Wants
pub mod Wished
pub mod Held
pub mod Holding
