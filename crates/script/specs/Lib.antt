pub mod Headings
pub mod Faults
pub mod Texts
pub mod Words
