pub mod Walking
pub mod Kept
pub mod Following
pub mod Simulation
pub mod Tightness
pub mod Together
pub mod Whole
