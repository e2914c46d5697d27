pub mod Cutting
pub mod Fillable
pub mod Places
pub mod Reading
pub mod Required
pub mod Walk
