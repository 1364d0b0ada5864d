pub mod Layout
-- for the code
pub mod Inner
