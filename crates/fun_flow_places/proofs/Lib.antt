pub mod BindingLaws
pub mod TableLaws
