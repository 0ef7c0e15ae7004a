pub mod Crashes
pub mod Spans
pub mod Listing
pub mod Pools
pub mod Copying
