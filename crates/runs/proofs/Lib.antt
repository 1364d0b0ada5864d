pub mod FurtherHold
