-- What `mw_batch` offers, for the crates above.
pub use Rattle.mw_server_serve.specs.mw_batch.Batches
