pub mod Common
pub mod PromiseLemmas
pub mod WordLemmas
pub mod Lemmas
