pub mod Claiming
pub mod Contrasts
pub mod Hints
pub mod GoingOn
pub mod Leaving
pub mod Numbers
pub mod NamedBytes
