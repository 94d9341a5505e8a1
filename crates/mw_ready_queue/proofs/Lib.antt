-- the crate's own
mod Counts
mod Lists
mod Opens
mod Orders
mod Tops
