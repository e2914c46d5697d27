pub mod Draining
pub mod Parts
pub mod Steps
pub mod Worlds
