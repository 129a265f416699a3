pub mod Tidy
pub mod AtT0
pub mod Steps
pub mod Following
pub mod Responding
pub mod Stands
pub mod Carrying
