mod Homes
mod LeftOut
mod OneApplication
mod OneList
mod Same
mod Sorted
mod Within
mod WorkedList
