mod Causes
mod Names
mod Padding
mod Untold
