pub mod Ends
pub mod Seats
pub mod Seated
pub mod Turns
pub mod Tasks
pub mod Inside
pub mod Outboxes
