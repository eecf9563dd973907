pub mod Whole
pub mod Accepted
pub mod Sizes
