pub mod AsIfCalled
pub mod Faults
pub mod Whole
pub mod Sending
