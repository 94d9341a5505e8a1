-- the crate's own
mod FormPlans
