-- What `mw_batch` offers, for the crates above.
pub use Rattle.mw_batch.specs.Batches
