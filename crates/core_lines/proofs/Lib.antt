mod Counted
mod ExpressionExits
mod Joining
mod PatternExits
mod Rounds
