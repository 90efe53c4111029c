pub mod SetLemmas
pub mod SizeLemmas
pub mod ConflictLemmas
pub mod CycleLemmas
mod VectorLemmas
pub mod OverlayLemmas
pub mod Common
pub mod WithinLemmas
pub mod LegalLemmas
pub mod KeptLemmas
pub mod LineSetLemmas
pub mod FineLemmas
