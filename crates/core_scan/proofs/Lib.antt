mod RunLemmas
mod Tables
pub mod SortLaws
mod EscapeLemmas
mod InsideLemmas
mod Reach
mod OnceLemmas
mod ShapeLemmas
mod PassLemmas
mod TokenSorts
pub mod Pieces
mod AnswerLemmas
