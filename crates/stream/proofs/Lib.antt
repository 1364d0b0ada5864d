pub mod ReadLaws
pub mod InputLaws
