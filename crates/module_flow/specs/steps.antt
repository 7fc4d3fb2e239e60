pub mod Beginning
pub mod Readers
pub mod VisitCodes
pub mod Visits
