pub mod BookLemmas
pub mod HistoryLemmas
pub mod IndexLemmas
pub mod LawfulLemmas
pub mod PlaceLemmas
pub mod Rows
pub mod ValueLemmas
