pub mod Choosing
pub mod Call
pub mod Claim
