pub mod NotedLemmas
pub mod ExplainedLemmas
pub mod TraceLemmas
pub mod LogLemmas
mod DigitLemmas
pub mod SheetLemmas
mod TreeLemmas
pub mod AccountLemmas
pub mod CarriedLemmas
