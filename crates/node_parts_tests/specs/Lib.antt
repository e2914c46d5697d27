pub mod FirstPieces
