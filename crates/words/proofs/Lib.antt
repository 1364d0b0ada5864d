pub mod SpliceLaws
pub mod ByteLaws
pub mod JoinLaws
pub mod SameLaws
pub mod ZeroLaws
pub mod WroteLaws
