mod DeedSteps
pub mod Common
mod ReadLemmas
