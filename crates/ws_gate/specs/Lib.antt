pub mod Handshakes
pub mod Parts
pub mod Tokens
pub mod Protocols
pub mod Admissions
pub mod Rulings
