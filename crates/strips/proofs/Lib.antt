pub mod Binary
pub mod Members
pub mod Soundness
pub mod Layered
pub mod Rowed
pub mod Listing
