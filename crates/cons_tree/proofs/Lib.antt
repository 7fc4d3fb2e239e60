mod CalleeLaws
pub mod Copied
mod CopyLaws
mod FrameLaws
mod LoopLaws
pub mod NameLaws
mod NamedLaws
mod PartLaws
mod RowLaws
mod SignatureLaws
mod StepLaws
pub mod TrailLaws
pub mod TreeLaws
mod SameEntries
pub mod SlotLaws
