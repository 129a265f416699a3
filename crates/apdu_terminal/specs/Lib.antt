pub mod Apdus
pub mod ApduSide
pub mod CardApdu
pub mod ApduTalk
pub mod ApduOperations
pub mod ApduStops
pub mod TurnLaws
