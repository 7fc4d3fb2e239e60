mod Fit
mod GroupByGroup
mod Held
mod NewTable
mod Solved
mod Written
