mod SourceExits
mod TextsRead
mod OneReading
mod OneRead
mod Readings
mod SomeReading
mod ToldReadings
pub mod FilesRead
