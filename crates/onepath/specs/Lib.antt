pub mod Names
pub mod Cover
pub mod Own
pub mod Put
pub mod Listed
pub mod Holds
pub mod Refusals
pub mod Converting
