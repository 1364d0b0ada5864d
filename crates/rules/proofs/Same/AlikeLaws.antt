-- Alike is an equivalence; and a change that leaves the rows up to a level and their places, every page's slot and those rows' holdings gives a state alike.
use mathlib.Core.Path.{◌≡◌, refl, sym, ◌∙◌, ap}
use Prim.Native.Nat.{ℕ, ◌<◌, ◌≤◌}
use Rattle.seq.specs.Below.{at_found}
use Rattle.seq.specs.declared.Found.{Found}
use Rattle.seq.specs.declared.Found.TheVariants.{At, Nowhere}
use Rattle.model.specs.declared.State.{State}
use Rattle.model.specs.Parties.{level_of}
use Rattle.model.specs.State.{empty_holding, row_at, holding_at, place_at}
use Rattle.model.specs.Words.{slot_of}
use Rattle.rules.specs.Alike.{holding_on, Alike}

pub alike_refl : (L : ℕ) (s : State) → Alike L s s
alike_refl L s = record { size = refl; delay = refl; clock = refl; row = λ r b l. refl; place = λ r b l. refl; holding = λ page r b l. refl }

pub alike_sym : {L : ℕ} {s t : State} → Alike L s t → Alike L t s
alike_sym a = record {
  size = sym a.size;
  delay = sym a.delay;
  clock = sym a.clock;
  row = λ r b l. sym (a.row r b l);
  place = λ r b l. sym (a.place r b l);
  holding = λ page r b l. sym (a.holding page r b l);
}

pub alike_trans : {L : ℕ} {s t u : State} → Alike L s t → Alike L t u → Alike L s u
alike_trans a b = record {
  size = a.size ∙ b.size;
  delay = a.delay ∙ b.delay;
  clock = a.clock ∙ b.clock;
  row = λ r h l. a.row r h l ∙ b.row r h l;
  place = λ r h l. a.place r h l ∙ b.place r h l;
  holding = λ page r h l. a.holding page r h l ∙ b.holding page r h l;
}

-- every page in its slot, and the rows' holdings on every slot
pub alike_still : (L : ℕ) (s t : State) → t.size ≡ s.size → t.delay ≡ s.delay → t.clock ≡ s.clock → ((page : ℕ) → slot_of t page ≡ slot_of s page)
    → ((r : ℕ) → r < 32 → level_of r ≤ L → row_at t r ≡ row_at s r) → ((r : ℕ) → r < 32 → level_of r ≤ L → place_at t r ≡ place_at s r)
    → ((i r : ℕ) → r < 32 → level_of r ≤ L → holding_at t i r ≡ holding_at s i r) → Alike L s t
unfolding holding_on
alike_still L s t n d c p w q h = record {
  size = sym n;
  delay = sym d;
  clock = sym c;
  row = λ r b l. sym (w r b l);
  place = λ r b l. sym (q r b l);
  holding = λ page r b l. go r b l (slot_of s page) ∙ ap (λ (f : Found). at_found f (λ i. holding_at t i r) empty_holding) (sym (p page));
}
  where
    go : (r : ℕ) → r < 32 → level_of r ≤ L → (f : Found) → at_found f (λ i. holding_at s i r) empty_holding ≡ at_found f (λ i. holding_at t i r) empty_holding
    go r b l Nowhere = refl
    go r b l (At i) = sym (h i r b l)
