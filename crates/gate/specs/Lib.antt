pub mod Verdicts
pub mod Parts
pub mod Cells
