pub mod Links
pub mod Memory
pub mod Doors
pub mod Sockets
pub mod Counted
pub mod Backlogs
pub mod Failures
