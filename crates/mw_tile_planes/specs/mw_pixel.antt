-- What `mw_pixel` offers, for the crates above.
pub use Rattle.mw_step_task.specs.mw_pixel.Images
