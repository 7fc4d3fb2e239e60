mod CalledForms
mod CalledPatterns
mod CalledRounds
mod FirstCalls
mod Gathered
mod GatheredForms
mod GatheredPatterns
mod GatheredRounds
pub mod Named
mod Solved
mod TypeLists
