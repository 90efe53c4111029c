mod FileLemmas
mod ScreenLemmas
mod StoreLemmas
mod WordLemmas
pub mod Common
mod NeedLemmas
