-- What `mw_line` offers, for the crates above.
pub use Rattle.mw_bits.specs.mw_line.Extrema
