pub mod Openings
pub mod PlayedOut
