pub mod Compiled
pub mod Decoded
pub mod Soundness
