pub mod ModelLaws
pub mod Worked
pub mod Passing
pub mod Prelude
