mod Pieces
mod PrintText
