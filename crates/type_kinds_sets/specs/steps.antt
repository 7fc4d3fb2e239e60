pub mod AtomKinds
pub mod IntKinds
