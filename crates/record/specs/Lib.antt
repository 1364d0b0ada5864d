pub mod Record
pub mod Text
pub mod FillText
pub mod Play
pub mod ShortRecord
pub mod OldPlay
-- for the code
pub mod Inner
