pub mod Books
pub mod Lists
pub mod Texts
pub mod Walk
