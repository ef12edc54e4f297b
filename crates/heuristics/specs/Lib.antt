pub mod Scale
pub mod Smalls
pub mod Tables
pub mod Compiled
pub mod Theorems
