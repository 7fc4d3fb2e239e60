pub mod Typings
