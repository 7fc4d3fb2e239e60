mod Reading
mod Texts
mod Generated
