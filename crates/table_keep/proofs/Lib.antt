pub mod CallLaws
mod Leaving
pub mod MadeLaws
mod MemberLaws
pub mod Rises
pub mod RisingLaws
pub mod SpelledLaws
pub mod RisingNames
mod SortedNames
mod PlacedNames
mod StandingNames
mod CallPairs
mod ComponentGroups
mod GraphLaws
mod StandingEntries
mod GroupLaws
mod SomeGroups
