pub mod Smalls
pub mod Front
pub mod Readers
pub mod Costs
pub mod Orders
