-- What `mw_line` offers, for the crates above.
pub use Rattle.mw_offset.specs.mw_line.Cells
pub use Rattle.mw_offset.specs.mw_line.Extrema
