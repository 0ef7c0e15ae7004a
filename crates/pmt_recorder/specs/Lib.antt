pub mod Strips
pub mod Shelving
pub mod Scripts
