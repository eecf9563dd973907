pub mod Reading
pub mod Answering
