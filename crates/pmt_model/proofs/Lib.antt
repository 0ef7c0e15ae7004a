pub mod Falls
pub mod Pieces
pub mod SelectLemmas
