-- The definitions give each call of the further runs its line, and the tick of two_filled its list.
use mathlib.Core.Path.{◌≡◌, refl}
use mathlib.Core.List.{map}
use Rattle.model.specs.declared.Call.TheVariants.{Tick}
use Rattle.seq.specs.Below.{any_below, all_below, count_below, pick_below, inserted, sorted_below}
use Rattle.seq.specs.Each.{each, each_from}
use Rattle.model.specs.Parties.{class_of, are_borders, allowed, better}
use Rattle.model.specs.State.{fresh, empty_holdings}
use Rattle.model.specs.Words.{conflict, stronger, seen_holder, seen, is_open, dormant, sees_dormant, outranks, best_holder, strongest_pin, least_arrival, latest_touch, slot_of}
use Rattle.model.specs.Changes.{written, dirtied, released, killed, cleared, rows_not_free, moved_up, closed_up}
use Rattle.rules.specs.Answers.{word, value, slot_told, back_told}
use Rattle.rules.specs.Choice.{step_a, before_dormant, step_b, holder_level, held_above, highest_level, pinned_at, in_c, in_d, held_at_own_level, seen_pin, in_e, in_f, before_held, step_held, chosen}
use Rattle.rules.specs.Refusals.{pins_page, start_refusal, begin_refusal, request_refusal, unpin_refusal, end_refusal, tick_refusal, look_refusal, view_refusal, count_refusal, borders_refusal}
use Rattle.rules.specs.Calls.{started, begun, unpinned_at, unpinned, ended, delivered_row, is_late, delivered_rows, late_killed, advanced, waiting, granted, conflicts, must_wait, step1, step2, step3, pinners_killed, write_back, filled, served, requested, looked_at, viewed, counted, bordered}
use Rattle.rules.specs.Tries.{tries, waiters, all_tried, ticked, entry_bytes, entries, list_bytes}
use Rattle.rules.specs.Run.{outcome, fills_of, after}
use Rattle.rules.specs.Marked.{lines_from, lines, lines_of, call_of}
use Rattle.runs.specs.Further.{further, two_filled_before, two_filled_bytes}

pub further_hold : map lines further ≡ map (map lines_of) further
unfolding any_below all_below count_below pick_below inserted sorted_below each each_from class_of are_borders allowed better fresh empty_holdings conflict stronger seen_holder seen is_open dormant sees_dormant outranks best_holder strongest_pin least_arrival latest_touch slot_of written dirtied released killed cleared rows_not_free moved_up closed_up word value slot_told back_told step_a before_dormant step_b holder_level held_above highest_level pinned_at in_c in_d held_at_own_level seen_pin in_e in_f before_held step_held chosen pins_page start_refusal begin_refusal request_refusal unpin_refusal end_refusal tick_refusal look_refusal view_refusal count_refusal borders_refusal started begun unpinned_at unpinned ended delivered_row is_late delivered_rows late_killed advanced tries waiters all_tried ticked waiting granted conflicts must_wait step1 step2 step3 pinners_killed write_back filled served requested looked_at viewed counted bordered outcome fills_of lines_from
further_hold = refl

pub list_bytes_hold : list_bytes (fills_of (after (fresh 1 1) (map call_of two_filled_before)) (Tick 256)) ≡ two_filled_bytes
unfolding any_below all_below count_below pick_below inserted sorted_below each each_from class_of are_borders allowed better fresh empty_holdings conflict stronger seen_holder seen is_open dormant sees_dormant outranks best_holder strongest_pin least_arrival latest_touch slot_of written dirtied released killed cleared rows_not_free moved_up closed_up word value slot_told back_told step_a before_dormant step_b holder_level held_above highest_level pinned_at in_c in_d held_at_own_level seen_pin in_e in_f before_held step_held chosen pins_page start_refusal begin_refusal request_refusal unpin_refusal end_refusal tick_refusal look_refusal view_refusal count_refusal borders_refusal started begun unpinned_at unpinned ended delivered_row is_late delivered_rows late_killed advanced tries waiters all_tried ticked waiting granted conflicts must_wait step1 step2 step3 pinners_killed write_back filled served requested looked_at viewed counted bordered outcome fills_of after entry_bytes entries list_bytes
list_bytes_hold = refl
