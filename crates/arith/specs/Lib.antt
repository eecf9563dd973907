pub mod Cuts
pub mod Rounded
pub mod Signs
