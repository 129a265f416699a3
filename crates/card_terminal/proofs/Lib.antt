mod SentLemmas
mod TerminalBufferLemmas
mod GoneLemmas
pub mod SessionLemmas
pub mod FetchLemmas
pub mod OperationLemmas
pub mod PutTalkLemmas
pub mod TalkLemmas
pub mod BoundLemmas
pub mod TalkListLemmas
pub mod TalkVectors
mod RunLemmas
mod TerminalLemmas
mod TerminalStepLemmas
mod TerminalCutting
mod PartLemmas
mod UnsentLemmas
