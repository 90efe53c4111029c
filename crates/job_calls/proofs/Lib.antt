pub mod Common
pub mod CauseLemmas
pub mod RunLemmas
pub mod BigLemmas
pub mod NameLemmas
