mod Announced
mod Parting
