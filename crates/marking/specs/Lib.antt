pub mod Rules
pub mod Members
pub mod Sets
pub mod Spread
pub mod Refusals
pub mod Marking
pub mod Unions
