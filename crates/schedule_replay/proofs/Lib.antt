pub mod Common
pub mod CountLemmas
pub mod PutsLemmas
pub mod RanToLemmas
mod RunAsksLemmas
pub mod WentLemmas
pub mod EventLemmas
pub mod AnsweredLemmas
pub mod RanLemmas
pub mod ReportLemmas
pub mod QuietLemmas
pub mod Lemmas
