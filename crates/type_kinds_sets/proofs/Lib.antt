pub mod AscendingLaws
mod AtomKinds
pub mod BitHeights
pub mod BitLaws
mod EndLaws
pub mod FewLaws
mod HeightLaws
mod IntKinds
pub mod NameHeights
pub mod NameLaws
pub mod NumberHeights
pub mod NumberLaws
