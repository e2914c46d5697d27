pub mod ReadBack
pub mod Said
pub mod SaidDisconnects
pub mod Whole
