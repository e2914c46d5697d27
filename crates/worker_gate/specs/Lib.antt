pub mod Working
pub mod Listening
