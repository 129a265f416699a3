pub mod CardCommand
pub mod Operated
