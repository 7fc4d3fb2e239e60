pub mod AnswerExits
pub mod FileCauses
mod FileExits
pub mod FileRefusals
pub mod FileWords
pub mod HeldOnce
pub mod Texts
pub mod TableModels
pub mod TableFaults
mod ReportsJoined
pub mod PrintedNumbers
