pub mod Cases
pub mod Table
pub mod Bitwise
pub mod Comparisons
