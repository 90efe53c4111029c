pub mod Common
pub mod LineLemmas
pub mod Listed
pub mod PartLemmas
pub mod WordLemmas
pub mod Lemmas
