pub mod LoopLaws
pub mod Elements
pub mod Pieces
pub mod RoundTrip
pub mod AreaSteps
pub mod Amends
