pub mod Heads
pub mod Told
