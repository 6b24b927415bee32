pub mod Advances
pub mod Agrees
pub mod Pairs
pub mod Deserving
pub mod Promised
