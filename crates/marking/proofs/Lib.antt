pub mod Order
pub mod Tables
pub mod Contexts
pub mod Views
pub mod Steps
pub mod Starts
pub mod Ends
