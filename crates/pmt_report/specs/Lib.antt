pub mod Faults
pub mod Reports
pub mod Checks
pub mod Runs
