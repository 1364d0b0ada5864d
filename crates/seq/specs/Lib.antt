pub mod Below
pub mod Each
pub mod Order
pub mod Machine
