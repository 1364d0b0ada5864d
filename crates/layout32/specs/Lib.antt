pub mod Layout
pub mod Sound32
pub mod Known
