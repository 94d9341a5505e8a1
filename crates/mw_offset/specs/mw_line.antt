-- What `mw_line` offers, for the crates above.
pub use Rattle.mw_line.specs.Cells
pub use Rattle.mw_line.specs.Extrema
