pub mod Ints
pub mod Floats
pub mod Rounding
pub mod Cutting
