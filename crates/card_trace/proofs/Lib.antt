pub mod TraceLemmas
pub mod TableLemmas
pub mod ObjectsLemmas
pub mod CommandLineLemmas
pub mod ScriptLineLemmas
pub mod ScriptWordLemmas
pub mod ScriptFieldLemmas
pub mod ScriptRefusalLemmas
pub mod ScriptTableLemmas
pub mod NoFieldLemmas
pub mod ScriptPlayLemmas
pub mod ScriptCardLemmas
mod ScriptFaultLemmas
mod ScriptLoopLemmas
mod PlayLemmas
mod OpeningLemmas
mod CardLemmas
