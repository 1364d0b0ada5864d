pub mod SlotHoldings
pub mod Granted
pub mod Replies
