pub mod SummaryLaws
pub mod SearchLaws
pub mod BestLaws
pub mod ChoiceLaws
