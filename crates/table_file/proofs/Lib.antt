mod CalleeReading
mod EntryLaws
mod EntryReading
mod EntryRules
mod FieldLaws
mod FunctionLaws
mod LeafLaws
mod OnceLaws
pub mod RiseLaws
mod SameLaws
mod SigReading
mod TableLaws
mod TableReading
mod FoundOrNone
mod TableOrFault
