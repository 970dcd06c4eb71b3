mod Asked
mod Causes
mod Deals
mod Pieces
mod Shown
mod Traces
mod Starting
mod SizesFile
