pub mod ChainLaws
pub mod ReplyLaws
pub mod UnpinLaws
pub mod MarkLaws
pub mod TickLaws
pub mod SlotLaws
