pub mod Answer
pub mod Places
pub mod Table
