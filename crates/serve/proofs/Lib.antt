pub mod SlotLaws
pub mod KillLaws
pub mod DirtyLaws
pub mod ReplyLaws
pub mod StepLaws
pub mod ServeLaws
pub mod LeastLaws
