pub mod Put
pub mod Room
