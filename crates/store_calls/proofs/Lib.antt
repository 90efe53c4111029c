pub mod Common
pub mod ShowLemmas
pub mod WrittenLemmas
pub mod RenewLemmas
pub mod Lemmas
pub mod PromiseLemmas
