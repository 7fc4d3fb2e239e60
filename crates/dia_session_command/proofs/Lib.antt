mod Carried
mod Ended
mod LineExits
mod ScriptLines
mod SessionExits
mod WordExits
