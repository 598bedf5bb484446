-- The modules of this crate's proofs.
mod RunsPrinted
mod LongLines
mod Opens
mod Pieces
mod TextLinesLeft
pub mod ReadBack
pub mod Whole
