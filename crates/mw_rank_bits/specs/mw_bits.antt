-- What `mw_bits` offers, for the crates above.
pub use Rattle.mw_bits.specs.Uniform
