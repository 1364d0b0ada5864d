-- The ranks of all rows, one row more among the holders of a slot, and the greatest value among what passes.
use mathlib.Core.Path.{◌≡◌, refl, sym, ◌∙◌, ap}
use mathlib.Core.Bool.{Bool, true, false, cond, ◌&&◌, ◌||◌}
use mathlib.Core.List.{List}
use Prim.Native.Nat.{ℕ, zero, suc, ◌+◌, ◌-◌, ◌<◌, ◌≤◌, max}
use native.Mathlib.Omega.{arith}
use borrow.Author.Tests.{ltb-true, ltb-false, eqb-true, eq-eqb}
use lib.Dec.{ltb, eqb}
use native.Mathlib.Decide.{ℕ_discrete, dec_lt}
use borrow.Rule.Slice.PartMut.{mid_of}
use Rattle.std.proofs.lemmas.List.{get_or-take, get_or-drop, get_or_append_left, get_or-append_right, get_or-set_same, length-take-le}
use Rattle.std.proofs.Common.{◌++◌, length-append, length-drop}
use lib.ListN.{length, take, drop, set, get_or, replicate, length-replicate}
use lib.Seq.{ext_get_or, get_or-set_other}
use denote.Param.Members.{Mut}
use Rattle.std.specs.Fn.{Called}
use Rattle.std.specs.Array.{IsFromFnResult, IsFromFnResultFrom}
use Rattle.std.proofs.Common.{subst}
use Rattle.std.specs.Prelude.{Option, Some, None}
use Rattle.seq.specs.Below.{pick_below, considered, at_found}
use Rattle.seq.specs.declared.Found.{Found}
use Rattle.seq.specs.declared.Found.TheVariants.{At, Nowhere}
use Rattle.seq.proofs.Tests.{true_false, not_true_false, and_false_right, or_none}
use Rattle.seq.proofs.BelowLaws.{any_more, none_any}
use Rattle.seq.proofs.PickLaws.{pick_more, pick_is, pick_none, none_pick}
use Rattle.seq.specs.Each.{each, each_below}
use Rattle.seq.proofs.EachLaws.{each_length, each_below_length, each_below_later, each_below_reached}
use Rattle.seq.proofs.BuildLaws.{build_at}
use Rattle.model.specs.declared.Holding.{Holding}
use Rattle.model.specs.declared.Rank.{Rank}
use Rattle.model.specs.declared.Row.{Row}
use Rattle.model.specs.declared.State.{State}
use Rattle.model.specs.Parties.{level_of, better}
use Rattle.model.specs.State.{holding_at}
use Rattle.model.specs.Words.{holds, pins, outranks}
use Rattle.model.proofs.PinLaws.{not_pinned}
use Rattle.model.proofs.PriorityLaws.{level_outranks}
use Rattle.choice.specs.declared.Holders.{Holders}
use Rattle.choice.specs.Inner.Summary.{no_rank, rank_in, ranks_of, latest_below, pinned_below, held_by, holders_at, holders_below, joined_level, holders_with}

pub rank_at_lem : (rows : List Row) (places : List ℕ) (ranks : List Rank) (row : ℕ) → ranks ≡ ranks_of rows places → row < 32 → get_or ranks row no_rank ≡ rank_in rows places row
unfolding ranks_of
rank_at_lem rows places ranks row e h = ap (λ (l : List Rank). get_or l row no_rank) e ∙ build_at (rank_in rows places) 32 no_rank row no_rank h

-- an array made by calls that change nothing
module _ {F A : Type 0} {g : Mut F (ℕ × Unit {0}) A} (f : F) (v : ℕ → A) (call : (i : ℕ) (y : A) (q : F) → Called g f (i, tt) y q → (q ≡ f) × (y ≡ v i)) where
  pub made_from : (ys : List A) (d : A) (i n k : ℕ) (q : F) → q ≡ f → IsFromFnResultFrom g q ys i n → i ≤ k → k < i + n → get_or ys k d ≡ v k
  made_from ys d i zero k q e m h l = absurd (omega arith)
  made_from ys d i (suc n) k q e (t, y, at, c, rest) h l =
      let z = call i y t (subst (λ (p : F). Called g p (i, tt) y t) e c) in
      elim (ℕ_discrete k i) [
        | yes w ↦ rw w (at.1 d ∙ z.1)
        | no w ↦ made_from ys d (i + 1) n k t z.0 rest (omega arith) (omega arith)
      ]

  pub made_each : (n : ℕ) (d : A) (ys : List A) → IsFromFnResult g f ys n → ys ≡ each (λ k _. v k) (replicate n d)
  made_each n d ys m = ext_get_or d ys (each (λ k _. v k) (replicate n d)) (m.long ∙ sym (each_length (λ k _. v k) (replicate n d) ∙ length-replicate n d))
      (λ k b. let h : k < n = omega (arith, m.long) in made_from ys d 0 n k f refl m.each (omega arith) (omega arith) ∙ sym (build_at v n d k d h))

-- a part of a list, as `&l[a..a + n]` has it
module _ {A : Type 0} (l : List A) (a n : ℕ) where
  part_size : a + n - a ≡ n
  part_size = omega arith

  pub part_at : (i : ℕ) (d : A) → i < n → get_or (mid_of a (a + n - a) l) i d ≡ get_or l (a + i) d
  part_at i d h = rw part_size (get_or-take n (drop a l) i d h ∙ get_or-drop a l i d)

  pub part_length : a + n ≤ length l → length (mid_of a (a + n - a) l) ≡ n
  part_length h = rw part_size (length-take-le n (drop a l) (rw length-drop (omega arith)))

-- the first elements of an array set in turn
module _ {A : Type 0} (v : ℕ → A) (l : List A) where
  pub filled_turn : (i : ℕ) (d y : A) → i < length l → ((k : ℕ) → k < i → get_or l k d ≡ v k) → y ≡ v i → (k : ℕ) → k < i + 1 → get_or (set l i y) k d ≡ v k
  filled_turn i d y h so e k b = elim (ℕ_discrete k i) [
    | yes w ↦ rw w (get_or-set_same l i y d h ∙ e)
    | no w ↦ get_or-set_other l i k y d w ∙ so k (omega arith)
  ]

  pub filled_all : (all : List A) (m i : ℕ) (d : A) → m ≤ length all → length l ≡ length (take m all) → length (take m all) ≤ i → ((k : ℕ) → k < i → get_or l k d ≡ v k)
      → l ++ drop m all ≡ each_below m (λ k _. v k) all
  filled_all all m i d most long end so =
      let z : length l ≡ m = long ∙ length-take-le m all most in
      let size : length (l ++ drop m all) ≡ length all = rw (length-append, length-drop) (omega arith) in
      ext_get_or d (l ++ drop m all) (each_below m (λ k _. v k) all) (size ∙ sym (each_below_length (λ k _. v k) all m))
      (λ k b.
      let h : k < length all = rw size at b in
      elim (dec_lt k m) [
        | yes q ↦ get_or_append_left l (drop m all) d k (omega arith) ∙ so k (omega arith) ∙ sym (each_below_reached (λ k _. v k) all m k d q h)
        | no q ↦
            let e : m + (k - m) ≡ k = omega arith in
            get_or-append_right l (drop m all) m k d z (omega arith) ∙ get_or-drop m all (k - m) d ∙ rw e (sym (each_below_later (λ k _. v k) all m k d (omega arith) h))
      ])

-- the greatest value among what passes, carried along
pub most_turn : (p : ℕ → Bool) (f : ℕ → ℕ) (n : ℕ) (b : Bool) → p n ≡ b
    → at_found (pick_below (n + 1) p (λ i j. ltb (f j) (f i))) f 0
    ≡ cond b (max (at_found (pick_below n p (λ i j. ltb (f j) (f i))) f 0) (f n)) (at_found (pick_below n p (λ i j. ltb (f j) (f i))) f 0)
most_turn p f n b e = rw (pick_more p (λ i j. ltb (f j) (f i)), e) (go b (pick_below n p (λ i j. ltb (f j) (f i))))
  where
    last : (j : ℕ) (x : Bool) → ltb (f j) (f n) ≡ x → at_found (cond x (At n) (At j)) f 0 ≡ max (f j) (f n)
    last j true e = let h = ltb-true (f j) (f n) e in omega arith
    last j false e = let h = ltb-false (f j) (f n) e in omega arith

    go : (b : Bool) (g : Found) → at_found (considered b g n (λ i j. ltb (f j) (f i))) f 0 ≡ cond b (max (at_found g f 0) (f n)) (at_found g f 0)
    go false g = refl
    go true Nowhere = omega arith
    go true (At j) = last j (ltb (f j) (f n)) refl

module _ (s : State) (slot r : ℕ) where
  latest_more : (level : ℕ) (b : Bool) → eqb (level_of r) level && holds s slot r ≡ b
      → latest_below s level slot (r + 1) ≡ cond b (max (latest_below s level slot r) (holding_at s slot r).touch) (latest_below s level slot r)
  unfolding latest_below
  latest_more level b e = most_turn (λ row. eqb (level_of row) level && holds s slot row) (λ row. (holding_at s slot row).touch) r b e

  pinned_more : (level : ℕ) (b : Bool) → eqb (level_of r) level && pins s slot r ≡ b → pinned_below s level slot (r + 1) ≡ pinned_below s level slot r || b
  unfolding pinned_below
  pinned_more level b e =
      any_more (λ row. eqb (level_of row) level && pins s slot row) r ∙ ap (λ (x : Bool). pinned_below s level slot r || x) e

  -- a row that does not count changes nothing
  stays : (b : ℕ) → eqb (level_of r) (level_of b) && holds s slot r ≡ false → holders_at s slot r (At b) ≡ holders_at s slot (r + 1) (At b)
  stays b e = rw (latest_more (level_of b) false e, pinned_more (level_of b) false (no_pin (eqb (level_of r) (level_of b)) e) ∙ or_none (pinned_below s (level_of b) slot r))
    where
      no_pin : (a : Bool) → a && holds s slot r ≡ false → a && pins s slot r ≡ false
      no_pin true e = not_pinned (holding_at s slot r).pin e
      no_pin false e = refl

  -- rows that hold nothing
  none_latest : ((i : ℕ) → i < r → holds s slot i ≡ false) → latest_below s (level_of r) slot r ≡ 0
  unfolding latest_below
  none_latest free =
      ap (λ (f : Found). at_found f (λ row. (holding_at s slot row).touch) 0)
      (none_pick (λ row. eqb (level_of row) (level_of r) && holds s slot row) (λ row other. ltb (holding_at s slot other).touch (holding_at s slot row).touch) r
      (λ i k. and_false_right (eqb (level_of i) (level_of r)) (holds s slot i) (free i k)))

  none_pinned : ((i : ℕ) → i < r → holds s slot i ≡ false) → pinned_below s (level_of r) slot r ≡ false
  unfolding pinned_below
  none_pinned free =
      none_any (λ row. eqb (level_of row) (level_of r) && pins s slot row) r
      (λ i k. and_false_right (eqb (level_of i) (level_of r)) (pins s slot i) (not_pinned (holding_at s slot i).pin (free i k)))

  module _ (h : holds s slot r ≡ true) where
    -- it counts for its own level
    latest : (level : ℕ) → level_of r ≡ level → latest_below s level slot (r + 1) ≡ max (latest_below s level slot r) (holding_at s slot r).touch
    latest level e = latest_more level true (rw (eq-eqb (level_of r) level e, h))

    pinned : (level : ℕ) → level_of r ≡ level → pinned_below s level slot (r + 1) ≡ pinned_below s level slot r || pins s slot r
    pinned level e = pinned_more level (pins s slot r) (rw (eq-eqb (level_of r) level e))

    -- a row of the best holder's level joins
    joins : (b : ℕ) → level_of r ≡ level_of b
        → Some (joined_level (held_by s slot r b) r (rank_in s.rows s.places r) (holding_at s slot r)) ≡ holders_at s slot (r + 1) (cond (outranks s r b) (At r) (At b))
    unfolding outranks
    joins b l = go (better (rank_in s.rows s.places r) (rank_in s.rows s.places b))
      where
        go : (x : Bool) → ◌≡◌ {A = Option Holders}
            (Some (record {
              best = cond x r b;
              rank = cond x (rank_in s.rows s.places r) (rank_in s.rows s.places b);
              latest = max (latest_below s (level_of b) slot r) (holding_at s slot r).touch;
              pinned = pinned_below s (level_of b) slot r || pins s slot r;
            }))
            (holders_at s slot (r + 1) (cond x (At r) (At b)))
        go true = rw (latest (level_of r) refl, pinned (level_of r) refl, l)
        go false = rw (latest (level_of b) l, pinned (level_of b) l)

    -- the first holder
    begins : pick_below r (holds s slot) (outranks s) ≡ Nowhere
        → ◌≡◌ {A = Option Holders} (Some (record { best = r; rank = rank_in s.rows s.places r; latest = (holding_at s slot r).touch; pinned = pins s slot r })) (holders_at s slot (r + 1) (At r))
    begins e = rw (latest (level_of r) refl, pinned (level_of r) refl, none_latest free, none_pinned free, max_none (holding_at s slot r).touch)
      where
        free : (i : ℕ) → i < r → holds s slot i ≡ false
        free i k = pick_none (holds s slot) (outranks s) r i e k

        max_none : (a : ℕ) → max 0 a ≡ a
        max_none a = omega arith

  -- a holder of another level is of a higher one, and so not better
  apart : (b : ℕ) → b < r → eqb (level_of r) (level_of b) ≡ false → outranks s r b ≡ false
  apart b k e = not_true_false (outranks s r b) (λ t. let l = level_outranks s r b t in let m : level_of r ≡ level_of b = omega arith in true_false (sym (eq-eqb (level_of r) (level_of b) m) ∙ e))

  turn : (f : Found) (h : Bool) → pick_below r (holds s slot) (outranks s) ≡ f → holds s slot r ≡ h
      → holders_with (holders_at s slot r f) r (rank_in s.rows s.places r) (holding_at s slot r) ≡ holders_at s slot (r + 1) (considered h f r (outranks s))
  turn Nowhere false e h = rw h
  turn (At b) false e h = rw h (stays b (and_false_right (eqb (level_of r) (level_of b)) (holds s slot r) h))
  turn Nowhere true e h = rw h (begins h e)
  turn (At b) true e h = go (eqb (level_of r) (level_of b)) refl
    where
      go : (x : Bool) → eqb (level_of r) (level_of b) ≡ x
          → holders_with (holders_at s slot r (At b)) r (rank_in s.rows s.places r) (holding_at s slot r) ≡ holders_at s slot (r + 1) (cond (outranks s r b) (At r) (At b))
      go true x = rw (h, x) (joins h b (eqb-true (level_of r) (level_of b) x))
      go false x = rw (h, x, apart b (pick_is (holds s slot) (outranks s) r b e).0 x) (stays b (rw x))

  pub holders_turn : (ranks : List Rank) (w v : Option Holders) (h : Holding) → r < 32 → ranks ≡ ranks_of s.rows s.places → h ≡ holding_at s slot r → w ≡ holders_below s slot r
      → v ≡ holders_with w r (get_or ranks r no_rank) h → v ≡ holders_below s slot (r + 1)
  unfolding holders_below
  holders_turn ranks w v h b k at e q =
      q ∙ rw (rank_at_lem s.rows s.places ranks r k b, at, e) (turn (pick_below r (holds s slot) (outranks s)) (holds s slot r) refl refl)
      ∙ ap (holders_at s slot (r + 1)) (sym (pick_more (holds s slot) (outranks s) r))

pub holders_none : (s : State) (slot : ℕ) → None ≡ holders_below s slot 0
unfolding holders_below pick_below
holders_none s slot = refl
