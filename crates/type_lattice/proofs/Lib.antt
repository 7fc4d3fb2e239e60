mod ChainLaws
mod DecisionLaws
mod KindModels
mod MakerLaws
mod MonotoneLaws
mod TypeLaws
mod TypeModels
pub mod ListOrder
