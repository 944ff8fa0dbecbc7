mod AdoptedFacts
mod CommitFacts
mod CountingFacts
mod EarlyFacts
mod GrantFacts
mod HiddenFacts
mod InsideFacts
mod KeepingFacts
mod LifeFacts
mod LivingFacts
mod LookFacts
mod MakingFacts
mod OpenedFacts
mod QueryFacts
mod SendingFacts
mod SettlingFacts
mod ArchiveFacts
mod CacheFacts
pub mod AnswerFacts
mod PlainFacts
mod StopFacts
pub mod StoredFacts
mod KeptFacts
mod TakenFacts
mod TogetherFacts
pub mod Words
