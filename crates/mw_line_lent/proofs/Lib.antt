-- the crate's own
mod Bests
mod Columns
mod Subtracted
mod Puts
mod LineCells
mod Near
mod Runs
mod SheetLines
mod Vectors
