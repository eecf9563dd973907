pub mod Build
pub mod Assembly
pub mod Shown
pub mod Sums
pub mod Readings
pub mod Refused
