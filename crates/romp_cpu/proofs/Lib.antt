pub mod Common
mod UndoneLemmas
pub mod WholeLemmas
pub mod PendingLemmas
pub mod AttemptLemmas
pub mod SegmentLemmas
pub mod WindowLemmas
