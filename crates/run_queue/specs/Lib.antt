pub mod Inboxes
pub mod Inside
pub mod ReadyLists
pub mod Queued
