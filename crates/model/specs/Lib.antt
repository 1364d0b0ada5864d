pub mod Parties
pub mod State
pub mod Ranges
pub mod Words
pub mod Changes
-- for the code
pub mod Inner
