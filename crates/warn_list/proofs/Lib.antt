mod FindingOrder
mod LineTexts
mod OneOrder
mod Sorting
mod SomeOrder
