pub mod Requests
pub mod Replies
pub mod Stages
pub mod Heard
pub mod Shakes
