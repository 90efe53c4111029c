pub mod Common
pub mod PutsLemmas
pub mod RowLemmas
mod Worked
