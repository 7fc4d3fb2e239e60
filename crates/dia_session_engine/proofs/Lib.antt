mod Exits
mod Places
mod Reports
