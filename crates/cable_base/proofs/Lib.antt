mod GoodTokens
mod ByteClasses
mod WordsStay
mod StringsStay
mod SameReading
mod SqueezedTwice
mod SqueezedUtf8
pub mod Rises
pub mod Filters
pub mod Each
