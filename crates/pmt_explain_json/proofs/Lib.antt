pub mod Arrays
pub mod Making
pub mod NoFloats
pub mod PlaceFloats
pub mod Pushing
pub mod WordLemmas
pub mod CleanLaws
