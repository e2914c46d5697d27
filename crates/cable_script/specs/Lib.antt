pub mod LineFaults
pub mod Prints
pub mod Reading
pub mod Words
