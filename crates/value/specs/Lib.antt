pub mod Truth
pub mod Arithmetic
pub mod Sets
pub mod Smallest
pub mod Candidates
pub mod Membership
