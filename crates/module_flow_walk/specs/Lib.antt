pub mod Clauses
pub mod Findings
pub mod Contributions
pub mod Walk
pub mod steps
