pub mod CommandFaults
pub mod Differ
pub mod EachEvent
pub mod Said
pub mod Placed
