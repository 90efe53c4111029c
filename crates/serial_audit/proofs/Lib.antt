pub mod Common
pub mod IndexLemmas
pub mod OneLemmas
pub mod VerdictLemmas
pub mod Lemmas
pub mod EnoughLemmas
pub mod StepLemmas
