pub mod Known
pub mod Threads
pub mod Waiting
