pub mod Analysing
