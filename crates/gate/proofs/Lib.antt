pub mod Tests
pub mod Rulesets
pub mod Instructions
pub mod Cells
pub mod Lent
pub mod Starts
pub mod Unique
