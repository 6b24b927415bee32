pub mod Values
pub mod Branching
pub mod Machine
pub mod Moves
pub mod Refusals
pub mod Judging
pub mod Words
