pub mod HandLemmas
pub mod AnswerLemmas
pub mod AppletLemmas
pub mod CallLemmas
pub mod CutLemmas
pub mod WholeLemmas
pub mod DeedLemmas
pub mod LineLemmas
pub mod GatherLemmas
pub mod BuildLemmas
pub mod AlikeLemmas
pub mod CaseLemmas
pub mod LendingLemmas
pub mod SentLemmas
pub mod GivingLemmas
pub mod GivenEndLemmas
mod RestLemmas
mod GivingVectors
