pub mod Inside
pub mod Setting
