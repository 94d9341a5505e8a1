-- Rows that are written into the samples of a plane.
pub use Rattle.mw_pixel_words.specs.Runs.{put_at}
