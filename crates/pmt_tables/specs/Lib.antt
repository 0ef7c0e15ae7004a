pub mod Flags
pub mod Slots
pub mod Lasts
