pub mod Lines
pub mod Decoding
pub mod Giving
pub mod Deciding
pub mod Needing
pub mod Enough
