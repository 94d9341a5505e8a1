pub mod Announcements
pub mod Closings
pub mod Ports
pub mod Refusals
pub mod Tellings
-- what lower crates offer
pub mod mw_wire
