pub mod Summary
pub mod Search
