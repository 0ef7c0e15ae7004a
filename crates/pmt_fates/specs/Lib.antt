pub mod Fates
pub mod Places
pub mod Counting
