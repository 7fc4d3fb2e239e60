mod Adding
mod LeafLaws
mod Prints
mod TextOnce
mod WordLaws
mod WordReads
mod WordStarts
