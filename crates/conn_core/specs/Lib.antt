pub mod Payloads
pub mod Subscriptions
pub mod Connections
pub mod Rooms
pub mod Bare
pub mod Marked
