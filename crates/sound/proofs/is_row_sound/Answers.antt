use mathlib.Core.Logic.{inl, inr}
use Rattle.rules.specs.Sound.{sound_row}
use Rattle.sound.proofs.ElementLaws.{joins}
use Rattle.sound.proofs.is_row_sound.Goals as goal

pub returns-in-Free : goal.returns-in-Free
unfolding sound_row
returns-in-Free c = elim c.in-Free.is [ inl e ↦ simp e | inr e ↦ simp e.1 ]

pub returns-in-Idle : goal.returns-in-Idle
unfolding sound_row
returns-in-Idle c = simp (← c.is_settled.ensures, ← c.is_past-in_time.ensures, c.in-Idle.is)

pub returns-in-Fetching : goal.returns-in-Fetching
unfolding sound_row
returns-in-Fetching c = simp (joins, c.awaits_one.ensures, c.is_past-in_time.ensures, c.in-Fetching.is)

pub returns-in-Waiting : goal.returns-in-Waiting
unfolding sound_row
returns-in-Waiting c = simp (← c.is_settled-in-Waiting.ensures, ← c.may_access.ensures.value, ← c.class_of-class.ensures.0, ← c.is_past-in_time.ensures, c.in-Waiting.is)
