pub mod Lines
pub mod Needed
pub mod Said
