pub mod Serving
-- what lower crates offer
pub mod mw_wire
