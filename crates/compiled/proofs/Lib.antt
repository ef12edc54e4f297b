pub mod Numbering
pub mod Rising
pub mod Carrying
pub mod Removing
pub mod Whole
pub mod Scoped
pub mod Compiling
pub mod Few
