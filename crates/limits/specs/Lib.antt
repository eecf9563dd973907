pub mod Machine
pub mod Demand3
pub mod Figures
pub mod Kept
pub mod Sees
