mod BuiltinLaws
mod Examples
mod Walks
mod WorkedCalls
