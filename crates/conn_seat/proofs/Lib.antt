mod Struck
mod Looking
mod Leaving
mod Ending
mod Showing
pub mod Sitting
pub mod Answering
pub mod Turning
pub mod Placing
mod Working
mod Same
