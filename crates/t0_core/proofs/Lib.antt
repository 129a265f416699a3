pub mod HostLemmas
pub mod HostTook
pub mod DataRunLemmas
pub mod DataTakingLemmas
pub mod PlaceLemmas
pub mod CardSendingLemmas
pub mod PlanLemmas
pub mod CardLemmas
pub mod HistoryLemmas
pub mod CardTakingLemmas
mod Vectors
pub mod PlannedFront
pub mod TpduLemmas
pub mod TpduBytesFacts
pub mod HistoryCutting
pub mod TapLemmas
pub mod TapLineLemmas
pub mod TapTurns
mod TapVectors
mod TpduVectors
