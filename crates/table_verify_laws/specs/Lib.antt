pub mod Listed
pub mod Closed
pub mod Rules
pub mod Certificates
pub mod Counted
pub mod Lined
pub mod Laws
