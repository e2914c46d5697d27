pub mod Apart
pub mod FirstChanges
