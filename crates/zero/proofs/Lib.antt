pub mod CommandLemmas
pub mod WritingLemmas
pub mod LineLemmas
mod BestLemmas
mod CauseLemmas
mod TruthLemmas
mod GameLemmas
mod StatusLemmas
mod OutcomeLemmas
mod ToldLemmas
mod ReplyLemmas
mod PrintedLemmas
