-- The begin orders stay sound: where no row begins or ends, where one begins behind all others of its level, and where one ends and its level's order closes up.
use mathlib.Core.Path.{◌≡◌, refl, sym, ◌∙◌, ap}
use mathlib.Core.Bool.{Bool, true, false, not}
use mathlib.Core.Logic.{◌⊎◌, inl, inr}
use Prim.Native.Nat.{ℕ, ◌+◌, ◌-◌, ◌<◌, ◌≤◌}
use native.Mathlib.Omega.{arith}
use native.Mathlib.Decide.{ℕ_discrete, dec_lt}
use borrow.Author.Tests.{lt-ltb, le-ltb, eq-eqb, ne_eqb}
use lib.ListN.{set}
use lib.Seq.{get_or-set_same, get_or-set_other}
use Rattle.seq.proofs.Tests.{true_false}
use Rattle.seq.proofs.CountLaws.{count_one_more}
use Rattle.model.specs.declared.State.{State}
use Rattle.model.specs.Parties.{row_of, level_of, number_of}
use Rattle.model.specs.State.{row_at, place_at}
use Rattle.model.specs.Words.{is_free}
use Rattle.model.specs.Changes.{rows_not_free, moved_up, closed_up}
use Rattle.model.specs.Ranges.{Sized}
use Rattle.model.proofs.PlaceLaws.{closed_at, moved_far, not_free_same}
use Rattle.rules.specs.Calls.{last_place}
use Rattle.rules.specs.SoundFacts.{OrderSound}

-- the row is free
abbrev free : State → ℕ → Bool
free s r = is_free (row_at s r).condition

-- a level of which one row more is not free
not_free_more : (s t : State) (row : ℕ) → free s row ≡ true → free t row ≡ false → ((r : ℕ) → r < 32 → (r ≡ row → ⊥) → free t r ≡ free s r) → row < 32
    → rows_not_free t.rows (level_of row) ≡ rows_not_free s.rows (level_of row) + 1
unfolding rows_not_free
not_free_more s t row f g other b =
    let own : row ≡ row_of (level_of row) (number_of row) = omega arith in
    count_one_more (λ n. not (free s (row_of (level_of row) n))) (λ n. not (free t (row_of (level_of row) n))) 8 (number_of row) (omega arith)
    (ap (λ (r : ℕ). not (free s r)) (sym own) ∙ rw f) (ap (λ (r : ℕ). not (free t r)) (sym own) ∙ rw g)
    (λ n h m. ap not (sym (other (row_of (level_of row) n) (omega arith) (λ e. m (omega arith)))))

-- nobody begins or ends
pub order_stays : (s t : State) → OrderSound s → t.places ≡ s.places → ((r : ℕ) → r < 32 → free t r ≡ free s r) → OrderSound t
order_stays s t h e f = record {
  none = λ r b w. rw e (h.none r b (sym (f r b) ∙ w));
  least = λ r b w. rw e (h.least r b (sym (f r b) ∙ w));
  most = λ r b w. rw (e, not_free_same t s (level_of r) (λ n g. f (row_of (level_of r) n) (omega arith))) (h.most r b (sym (f r b) ∙ w));
  once = λ r q b c l p m. h.once r q b c l (rw e at p) (rw e at m);
}

module _ (s t : State) (z : Sized s) (h : OrderSound s) (row : ℕ) (b : row < 32) (other : (r : ℕ) → r < 32 → (r ≡ row → ⊥) → free t r ≡ free s r) where
  -- a level that the row is not of
  elsewhere : (level : ℕ) → level < 4 → (level ≡ level_of row → ⊥) → rows_not_free t.rows level ≡ rows_not_free s.rows level
  elsewhere level l m = not_free_same t s level (λ n g. other (row_of level n) (omega arith) (λ e. m (omega arith)))

  -- a free row begins
  module _ (e : t.places ≡ set s.places row (last_place s (level_of row))) (f : free s row ≡ true) (g : free t row ≡ false) where
    own : place_at t row ≡ last_place s (level_of row)
    own = rw e (get_or-set_same s.places row (last_place s (level_of row)) 0 (rw z.places b))

    old : (r : ℕ) → (r ≡ row → ⊥) → place_at t r ≡ place_at s r
    old r m = rw e (get_or-set_other s.places row r (last_place s (level_of row)) 0 m)

    more : rows_not_free t.rows (level_of row) ≡ rows_not_free s.rows (level_of row) + 1
    more = not_free_more s t row f g other b

    -- the others stand before it
    before : (r : ℕ) → r < 32 → (r ≡ row → ⊥) → level_of r ≡ level_of row → place_at t r < place_at t row
    before r c m l = go (free s r) refl
      where
        go : (x : Bool) → free s r ≡ x → place_at t r < place_at t row
        go true w = omega (arith, old r m, own, h.none r c w)
        go false w = omega (arith, old r m, own, rw l at (h.most r c w))

    pub order_begun : OrderSound t
    order_begun = record {
      none = λ r c w. elim (ℕ_discrete r row) [
        | yes m ↦ true_false (sym (rw m at w) ∙ g)
        | no m ↦ old r m ∙ h.none r c (sym (other r c m) ∙ w)
      ];
      least = λ r c w. elim (ℕ_discrete r row) [
        | yes m ↦ rw m (omega (arith, own))
        | no m ↦ omega (arith, old r m, h.least r c (sym (other r c m) ∙ w))
      ];
      most = λ r c w. elim (ℕ_discrete r row) [
        | yes m ↦ rw m (omega (arith, own, more))
        | no m ↦ elim (ℕ_discrete (level_of r) (level_of row)) [
          | yes l ↦ omega (arith, before r c m l, own, more, ap (rows_not_free t.rows) l)
          | no l ↦ omega (arith, old r m, h.most r c (sym (other r c m) ∙ w), elsewhere (level_of r) (omega arith) l)
        ]
      ];
      once = λ r q c d l p m. elim (ℕ_discrete r row) [
        | yes u ↦ elim (ℕ_discrete q row) [
          | yes v ↦ u ∙ sym v
          | no v ↦ absurd (omega (arith, before q d v (sym l ∙ ap level_of u), m, ap (λ (k : ℕ). place_at t k) u))
        ]
        | no u ↦ elim (ℕ_discrete q row) [
          | yes v ↦ absurd (omega (arith, before r c u (l ∙ ap level_of v), m, ap (λ (k : ℕ). place_at t k) v))
          | no v ↦ h.once r q c d l (omega (arith, old r u, p)) (sym (old r u) ∙ m ∙ old q v)
        ]
      ];
    }

  -- a row ends
  module _ (e : t.places ≡ closed_up row s.places) (f : free s row ≡ false) (g : free t row ≡ true) where
    moved : (r : ℕ) → r < 32 → place_at t r ≡ moved_up row (place_at s row) r (place_at s r)
    moved r c = rw e (closed_at s z row r c)

    gone : place_at t row ≡ 0
    unfolding moved_up
    gone = moved row b ∙ rw (eq-eqb row row refl)

    less : rows_not_free s.rows (level_of row) ≡ rows_not_free t.rows (level_of row) + 1
    less = not_free_more t s row g f (λ r c m. sym (other r c m)) b

    -- a row of another level
    far : (r : ℕ) → r < 32 → (level_of r ≡ level_of row → ⊥) → place_at t r ≡ place_at s r
    far r c m = moved r c ∙ moved_far row (place_at s row) r (place_at s r) m

    taken : 1 ≤ place_at s row
    taken = h.least row b f

    -- another row of its level stood ahead and stays, or stood behind and moves up
    abbrev Near : ℕ → Type 0
    Near r = ((place_at s r < place_at s row) × (place_at t r ≡ place_at s r)) ⊎ ((place_at s row < place_at s r) × (place_at t r ≡ place_at s r - 1))

    near : (r : ℕ) → r < 32 → (r ≡ row → ⊥) → level_of r ≡ level_of row → Near r
    unfolding moved_up
    near r c m l = elim (dec_lt (place_at s row) (place_at s r)) [
      | yes k ↦ inr (k, moved r c ∙ rw (ne_eqb r row m, eq-eqb (level_of r) (level_of row) l, lt-ltb (place_at s row) (place_at s r) k))
      | no k ↦
          let x : place_at s r ≡ place_at s row → ⊥ = λ u. m (sym (h.once row r b c (sym l) taken (sym u))) in
          inl (elim (ℕ_discrete (place_at s r) (place_at s row)) [ yes u ↦ absurd (x u) | no u ↦ omega arith ], moved r c ∙ rw (ne_eqb r row m, eq-eqb (level_of r) (level_of row) l, le-ltb (place_at s row) (place_at s r) (omega arith)))
    ]

    -- by whether a row is the one that ends, of its level, or of another
    by_row : {P : Type 0} (r : ℕ) → r < 32 → (r ≡ row → P) → ((r ≡ row → ⊥) → (level_of r ≡ level_of row → ⊥) → P)
        → ((r ≡ row → ⊥) → level_of r ≡ level_of row → place_at s r < place_at s row → place_at t r ≡ place_at s r → P)
        → ((r ≡ row → ⊥) → level_of r ≡ level_of row → place_at s row < place_at s r → place_at t r ≡ place_at s r - 1 → P) → P
    by_row {P} r c x y u v = elim (ℕ_discrete r row) [
      | yes m ↦ x m
      | no m ↦ elim (ℕ_discrete (level_of r) (level_of row)) [
        | yes l ↦ side m l (near r c m l)
        | no l ↦ y m l
      ]
    ]
      where
        side : (r ≡ row → ⊥) → level_of r ≡ level_of row → Near r → P
        side m l (inl k) = u m l k.0 k.1
        side m l (inr k) = v m l k.0 k.1

    -- two rows of its level that have one place now had one before
    pair : (r q : ℕ) → Near r → Near q → place_at t r ≡ place_at t q → 1 ≤ place_at t r → (1 ≤ place_at s r) × (place_at s r ≡ place_at s q)
    pair r q (inl x) (inl y) m p = (omega (arith, x.1), omega (arith, x.1, y.1))
    pair r q (inl x) (inr y) m p = absurd (omega (arith, x.0, x.1, y.0, y.1))
    pair r q (inr x) (inl y) m p = absurd (omega (arith, x.0, x.1, y.0, y.1))
    pair r q (inr x) (inr y) m p = (omega (arith, x.0), omega (arith, x.0, x.1, y.0, y.1))

    both_near : (r q : ℕ) → r < 32 → q < 32 → level_of r ≡ level_of q → 1 ≤ place_at t r → place_at t r ≡ place_at t q → (r ≡ row → ⊥) → level_of r ≡ level_of row → r ≡ q
    both_near r q c d l p m u v =
        let w : q ≡ row → ⊥ = λ i. omega (arith, gone, p, m, ap (λ (k : ℕ). place_at t k) i) in
        let x = pair r q (near r c u v) (near q d w (sym l ∙ v)) m p in
        h.once r q c d l x.0 x.1

    pub order_ended : OrderSound t
    order_ended = record {
      none = λ r c w. by_row r c (λ m. rw m gone) (λ m l. far r c l ∙ h.none r c (sym (other r c m) ∙ w))
          (λ m l k q. q ∙ h.none r c (sym (other r c m) ∙ w)) (λ m l k q. absurd (omega (arith, h.none r c (sym (other r c m) ∙ w))));
      least = λ r c w. by_row r c (λ m. true_false (sym g ∙ sym (ap (free t) m) ∙ w)) (λ m l. omega (arith, far r c l, h.least r c (sym (other r c m) ∙ w)))
          (λ m l k q. omega (arith, h.least r c (sym (other r c m) ∙ w))) (λ m l k q. omega (arith, taken));
      most = λ r c w. by_row r c (λ m. true_false (sym g ∙ sym (ap (free t) m) ∙ w))
          (λ m l. omega (arith, far r c l, h.most r c (sym (other r c m) ∙ w), elsewhere (level_of r) (omega arith) l))
          (λ m l k q. omega (arith, less, h.most row b f, ap (rows_not_free t.rows) l))
          (λ m l k q. omega (arith, less, h.most r c (sym (other r c m) ∙ w), ap (rows_not_free s.rows) l, ap (rows_not_free t.rows) l));
      once = λ r q c d l p m. by_row r c (λ u. absurd (omega (arith, gone, p, ap (λ (k : ℕ). place_at t k) u)))
          (λ u v. h.once r q c d l (omega (arith, far r c v, p)) (sym (far r c v) ∙ m ∙ far q d (λ w. v (l ∙ w))))
          (λ u v _ _. both_near r q c d l p m u v) (λ u v _ _. both_near r q c d l p m u v);
    }
