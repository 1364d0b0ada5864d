pub mod RangeLaws
pub mod PageLaws
pub mod ElementLaws
pub mod PinLaws
