pub mod Choosing
pub mod Texts
