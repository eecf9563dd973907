pub mod Sound
pub mod Demands
