use mathlib.Core.Path.{sym, ◌∙◌}
use Rattle.sound.proofs.ElementLaws.{and_true, out_of_range, sound_test}
use Rattle.sound.proofs.is_sound.Goals as goal

pub returns-then-not-is_in_range : goal.returns-then-not-is_in_range
returns-then-not-is_in_range c = out_of_range c.args.s.now (sym c.is_in_range.ensures ∙ c.if-not-is_in_range.true)

pub returns : goal.returns
returns c =
    rw (c.are_whole.ensures, c.are_slots_sound.ensures, c.are_pages_apart.ensures, c.are_rows_sound.ensures, c.are_holdings_sound.ensures, c.are_borders_sound.ensures, c.are_orders_sound.ensures)
    (rw (sym c.is_in_range.ensures ∙ c.if-not-is_in_range.false, and_true) at (sound_test c.args.s.now))
