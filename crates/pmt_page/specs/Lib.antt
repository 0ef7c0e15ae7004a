pub mod Columns
pub mod Pages
