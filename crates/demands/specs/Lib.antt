pub mod SlotWords
pub mod RefusalTable
pub mod SessionNumbers
pub mod Runs
pub mod BordersTold
pub mod OrderTold
pub mod HandedOver
