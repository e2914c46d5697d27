pub mod Numbers
pub mod Inside
pub mod AreSeats
pub mod Turned
pub mod Outboxes
pub mod Slots
