pub mod Changed
pub mod Holdings
