-- A batch is the assembly of the pieces that its rows show, and rows that agree show the same.
pub mod Agreeing
pub mod AssembledOctets
pub mod Assembly
pub mod LeftOutPieces
pub mod PieceLaws
pub mod PiecesOf
pub mod ShownParts
pub mod ShownPieces
pub mod Tiled
