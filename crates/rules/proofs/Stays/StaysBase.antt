-- What sound says but for the rows and the begin orders; and what a slot and a holding may become without harm to it.
use mathlib.Core.Path.{◌≡◌, refl, sym, ◌∙◌}
use mathlib.Core.Bool.{Bool, true, false, cond}
use mathlib.Core.List.{List}
use Prim.Native.Nat.{ℕ, ◌≤◌}
use native.Mathlib.Omega.{arith}
use lib.ListN.{length}
use Rattle.seq.proofs.Tests.{true_false}
use Rattle.model.specs.declared.Content.{Content}
use Rattle.model.specs.declared.Content.TheVariants.{Empty, Filled}
use Rattle.model.specs.declared.Pin.TheVariants.{Unpinned}
use Rattle.model.specs.declared.Slot.{Slot}
use Rattle.model.specs.declared.Holding.{Holding}
use Rattle.model.specs.declared.State.{State}
use Rattle.model.specs.State.{empty_holding, with_places}
use Rattle.model.specs.Words.{is_filled, page_in, arrival_in, lowest_in, is_held, conflict}
use Rattle.model.specs.Changes.{dirtied, dirtied_content}
use Rattle.model.proofs.PinLaws.{no_pin}
use Rattle.rules.specs.Sound.{pin_allowed}
use Rattle.rules.specs.Calls.{with_lowest}
use Rattle.rules.specs.SoundFacts.{Sound, Facts, RowsSound, OrderSound}

-- what sound says but for the rows and the begin orders
abbrev pub Base : State → Type 0
Base s = Facts Unit Unit s

with_rows_lem : {R Q O P : Type 0} (s : State) → Facts R O s → Q → P → Facts Q P s
with_rows_lem s h rows order = record {
  sized = h.sized;
  size_least = h.size_least;
  size_most = h.size_most;
  delay_least = h.delay_least;
  delay_most = h.delay_most;
  clock_most = h.clock_most;
  slot = h.slot;
  one_slot = h.one_slot;
  row = rows;
  order = order;
  held = h.held;
  unheld = h.unheld;
  no_conflict = h.no_conflict;
}

pub base : (s : State) → Sound s → Base s
base s h = with_rows_lem s h tt tt

-- the places are no part of it but for their number
pub base_places : (s : State) (places : List ℕ) → Base s → length places ≡ 32 → Base (with_places s places)
base_places s places h l = record {
  sized = record { rows = h.sized.rows; slots = h.sized.slots; holdings = h.sized.holdings; places = l };
  size_least = h.size_least;
  size_most = h.size_most;
  delay_least = h.delay_least;
  delay_most = h.delay_most;
  clock_most = h.clock_most;
  slot = λ i b. let x = h.slot i b in record { empty = x.empty; page = x.page; lowest = x.lowest; touch = x.touch; arrival = x.arrival; started = x.started };
  one_slot = h.one_slot;
  row = tt;
  order = tt;
  held = λ i r a b w. let x = h.held i r a b w in record { live = x.live; filled = x.filled; allowed = x.allowed; after = x.after; arrival = x.arrival; touch = x.touch; lowest = x.lowest };
  unheld = h.unheld;
  no_conflict = h.no_conflict;
}

pub whole : (s : State) → Base s → RowsSound s → OrderSound s → Sound s
whole s h rows order = with_rows_lem s h rows order

-- a slot with the same page, but for the dirty mark, a lower lowest level and a later touch
pub record SlotStays (x y : Slot) : Type 0 where
  pub filled : is_filled y.content ≡ is_filled x.content
  pub page : page_in y.content ≡ page_in x.content
  pub arrival : arrival_in y.content ≡ arrival_in x.content
  pub lowest : lowest_in y.content ≤ lowest_in x.content
  pub later : x.touch ≤ y.touch
  pub empty : is_filled x.content ≡ false → y.touch ≡ x.touch

pub slot_stays : (x y : Slot) → y ≡ x → SlotStays x y
slot_stays x y e = rw e (record { filled = refl; page = refl; arrival = refl; lowest = omega arith; later = omega arith; empty = λ _. refl })

pub slot_dirtied : (x : Slot) → SlotStays x (dirtied x)
unfolding dirtied
slot_dirtied x = record {
  filled = (go x.content).0;
  page = (go x.content).1;
  arrival = (go x.content).2;
  lowest = omega (arith, (go x.content).3);
  later = omega arith;
  empty = λ _. refl;
}
  where
    go : (c : Content) → (is_filled (dirtied_content c) ≡ is_filled c) × (page_in (dirtied_content c) ≡ page_in c) × (arrival_in (dirtied_content c) ≡ arrival_in c) × (lowest_in (dirtied_content c) ≡ lowest_in c)
    go Empty = (refl, refl, refl, refl)
    go (Filled p a d l) = (refl, refl, refl, refl)

pub slot_marked : (b : Bool) (x y : Slot) → y ≡ cond b (dirtied x) x → SlotStays x y
slot_marked true x y e = rw e (slot_dirtied x)
slot_marked false x y e = slot_stays x y e

pub marked_touch : (b : Bool) (x y : Slot) → y ≡ cond b (dirtied x) x → y.touch ≡ x.touch
unfolding dirtied
marked_touch true x y e = rw e
marked_touch false x y e = rw e

pub slot_touched : (level clock : ℕ) (x : Slot) → is_filled x.content ≡ true → x.touch ≤ clock
    → SlotStays x (record { content = with_lowest level x.content; touch = clock })
slot_touched level clock x f h = go x.content refl
  where
    go : (c : Content) → x.content ≡ c → SlotStays x (record { content = with_lowest level x.content; touch = clock })
    go Empty e = true_false (sym (rw e at f))
    go (Filled p a d l) e = record {
      filled = rw e;
      page = rw e;
      arrival = rw e;
      lowest = rw e (omega arith);
      later = h;
      empty = λ w. true_false (sym f ∙ w);
    }

-- a holding that is as it was, has gone, or has lost its pin
pub data HoldingStays (h k : Holding) : Type 0 where
  same : k ≡ h → HoldingStays h k
  gone : k ≡ empty_holding → HoldingStays h k
  loose : is_held h.pin ≡ true → k ≡ record { pin = Unpinned; arrival = h.arrival; touch = h.touch } → HoldingStays h k

pub record StillHeld (h k : Holding) : Type 0 where
  pub held : is_held h.pin ≡ true
  pub arrival : k.arrival ≡ h.arrival
  pub touch : k.touch ≡ h.touch
  pub allowed : (level class : ℕ) → pin_allowed level class h.pin ≡ true → pin_allowed level class k.pin ≡ true

pub still_held : (h k : Holding) → HoldingStays h k → is_held k.pin ≡ true → StillHeld h k
still_held h k (same e) w = record {
  held = rw e at w;
  arrival = rw e;
  touch = rw e;
  allowed = λ level class a. rw e a;
}
still_held h k (gone e) w = true_false (sym (rw e at w))
still_held h k (loose v e) w = record { held = v; arrival = rw e; touch = rw e; allowed = λ level class a. rw e }

pub not_held : (h k : Holding) → HoldingStays h k → (is_held h.pin ≡ false → h ≡ empty_holding) → is_held k.pin ≡ false → k ≡ empty_holding
not_held h k (same e) f w = e ∙ f (rw e at w)
not_held h k (gone e) f w = e
not_held h k (loose v e) f w = true_false (rw e at w)

-- a pin that stays conflicts with no pin that it did not conflict with
pub no_conflict_stays : (h k h' k' : Holding) → HoldingStays h k → HoldingStays h' k' → conflict h.pin h'.pin ≡ false → conflict k.pin k'.pin ≡ false
unfolding conflict
no_conflict_stays h k h' k' (gone e) m c = rw e
no_conflict_stays h k h' k' (loose v e) m c = rw e
no_conflict_stays h k h' k' (same e) (same f) c = rw (e, f) c
no_conflict_stays h k h' k' (same e) (gone f) c = no_pin k.pin k'.pin (rw f)
no_conflict_stays h k h' k' (same e) (loose v f) c = no_pin k.pin k'.pin (rw f)
