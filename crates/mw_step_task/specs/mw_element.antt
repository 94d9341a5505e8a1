-- What `mw_element` offers, for the crates above.
pub use Rattle.mw_element.specs.Figures
