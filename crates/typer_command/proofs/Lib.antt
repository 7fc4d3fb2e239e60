mod ListedLines
mod Typings
mod Outputs
mod Sound
