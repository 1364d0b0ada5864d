pub mod HiddenChanges
pub mod HiddenFill
pub mod HiddenChoice
pub mod HiddenServed
pub mod Hidden
pub mod OtherBorders
