pub mod Kept
pub mod Parts
pub mod Arms
pub mod Front
