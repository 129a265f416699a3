pub mod AnswerLemmas
pub mod LineLemmas
pub mod OperateLemmas
pub mod RunLemmas
pub mod KeepLemmas
