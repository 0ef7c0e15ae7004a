pub mod Headline
pub mod Passing
pub mod LineQueues
pub mod Streaming
