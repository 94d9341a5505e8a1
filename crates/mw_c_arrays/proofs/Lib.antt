-- what other crates may cite
pub mod FirstCases
pub mod SourceImages
-- the crate's own
mod Bitmaps
mod ByteTables
mod Marked
mod SoundImages
mod Tops
