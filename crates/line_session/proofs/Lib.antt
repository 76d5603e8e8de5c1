pub mod LineLemmas
pub mod TalkLemmas
pub mod Cuts
