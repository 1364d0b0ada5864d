-- Demand 3, a call at a time: what a clearance cannot tell apart, and that calls leave it so. The second state has the borders that the first one's run ends with.
use mathlib.Core.Path.{◌≡◌, refl, sym, ◌∙◌, ap}
use mathlib.Core.Bool.{Bool, true, false}
use Prim.Native.Nat.{ℕ, ◌≤◌}
use native.Mathlib.Omega.{arith}
use native.Mathlib.Decide.{dec_lt}
use borrow.Author.Tests.{leb-false}
use Rattle.seq.proofs.Tests.{true_false}
use Rattle.model.specs.declared.Borders.{Borders}
use Rattle.model.specs.declared.Call.{Call}
use Rattle.model.specs.declared.Outcome.{Outcome}
use Rattle.model.specs.declared.State.{State}
use Rattle.model.specs.State.{with_borders}
use Rattle.rules.specs.Answers.{word, is_started, told}
use Rattle.rules.specs.Run.{outcome}
use Rattle.rules.specs.Secrecy.{is_kept}
use Rattle.rules.specs.Sound.{sound}
use Rattle.rules.proofs.Facts.SoundFacts.{facts, borders_facts}
use Rattle.rules.proofs.Leaves.ContentLaws.{asks_above}
use Rattle.rules.proofs.Leaves.CallEffects.{Effect, unchanged, starts, begins, unpins, ends, ticks, sets, serves, effect}
use Rattle.rules.proofs.Leaves.SettingLaws.{kept_borders}
use Rattle.rules.proofs.Stays.StaysSound.{stays_sound}
use Rattle.rules.specs.Alike.{Alike}
use Rattle.rules.proofs.Same.AlikeLaws.{alike_sym, alike_trans}
use Rattle.rules.proofs.Same.SameStep.{same_step}
use Rattle.rules.proofs.Unseen.Hidden.{hidden, borders_hidden}
use Rattle.rules.proofs.Unseen.OtherBorders.{under_borders, before_begun}

-- two sound states, the second with the borders b: alike for a clearance up to 2; one state but for the borders for clearance 3, which sees all else of it
pub record Similar (L : ℕ) (b : Borders) (s t : State) : Type 0 where
  pub first : sound s ≡ true
  pub second : sound t ≡ true
  pub alike : L ≤ 2 → Alike L s t
  pub equal : L ≡ 3 → with_borders s b ≡ t
  pub borders : t.borders ≡ b

-- a call that is not kept for clearance 3 is refused, a question, or sets the borders: it leaves all else
unkept_still : (s : State) (b : Borders) (c : Call) → is_kept 3 c ≡ false → is_started (outcome s c).answer ≡ false → with_borders (outcome s c).state b ≡ with_borders s b
unfolding is_kept word
unkept_still s b c k r = go (outcome s c) r (effect s c)
  where
    go : (o : Outcome) → is_started o.answer ≡ false → Effect s c o → with_borders o.state b ≡ with_borders s b
    go o n (unchanged a q e) = rw e
    go o n (starts slots delay q t e) = true_false (rw e at n)
    go o n (begins level number deadline q t e) = absurd (omega (arith, leb-false level 3 (rw q at k), t.names.level_is))
    go o n (unpins level number page slot q t f p e) = absurd (omega (arith, leb-false level 3 (rw q at k), t.names.level_is))
    go o n (ends level number q m e) = absurd (omega (arith, leb-false level 3 (rw q at k), m.names.level_is))
    go o n (ticks room q u h e) = true_false (rw q at k)
    go o n (sets x q t e) = rw e
    go o n (serves row page mode h a m e) = absurd (omega (arith, asks_above c row page mode 3 k a))

-- a state that has the borders already
own_borders : (s : State) (b : Borders) → s.borders ≡ b → with_borders s b ≡ s
own_borders s b e = λ i. with_borders s (sym e i)

-- a kept call of clearance 3 does the same under other borders, where they agree once a row has begun
under_step : (s : State) (b : Borders) (c : Call) → sound s ≡ true → (s.begun ≡ true → s.borders ≡ b) → is_kept 3 c ≡ true → outcome (with_borders s b) c ≡ under_borders (outcome s c) b
under_step s b c z agree k = go s.begun refl
  where
    go : (x : Bool) → s.begun ≡ x → outcome (with_borders s b) c ≡ under_borders (outcome s c) b
    go true e =
        let f = agree e in
        ap (λ (u : State). outcome u c) (own_borders s b f)
        ∙ (λ i. record { state = sym (own_borders (outcome s c).state b (kept_borders 3 s c k ∙ f)) i; answer = (outcome s c).answer })
    go false e = before_begun s b c (facts s z) (borders_facts s z) e k

module _ (L : ℕ) (most : L ≤ 3) (b : Borders) where
  -- a state beside itself with the borders b
  pub similar_under : (s : State) → sound s ≡ true → sound (with_borders s b) ≡ true → Similar L b s (with_borders s b)
  similar_under s z y = record { first = z; second = y; alike = λ _. borders_hidden L s b; equal = λ _. refl; borders = refl }

  module _ (s t : State) (x : Similar L b s t) where
    by_clearance : {P : Type 0} → (L ≤ 2 → P) → (L ≡ 3 → P) → P
    by_clearance f g = elim (dec_lt L 3) [ yes h ↦ f (omega arith) | no h ↦ g (omega arith) ]

    pub similar_clock : s.clock ≡ t.clock
    similar_clock = by_clearance (λ l. (x.alike l).clock) (λ l i. (x.equal l i).clock)

    -- a kept call in both, where the first has the borders b once a row has begun
    module _ (agree : s.begun ≡ true → s.borders ≡ b) (c : Call) (k : is_kept L c ≡ true) where
      up_to_two : L ≤ 2 → (told (outcome s c).answer ≡ told (outcome t c).answer) × Alike L (outcome s c).state (outcome t c).state
      up_to_two l = same_step L s t c l x.first x.second (x.alike l) (λ e. agree e ∙ sym x.borders) k

      of_three : L ≡ 3 → outcome t c ≡ under_borders (outcome s c) b
      of_three l = ap (λ (u : State). outcome u c) (sym (x.equal l)) ∙ under_step s b c x.first agree (rw l at k)

      pub similar_told : told (outcome s c).answer ≡ told (outcome t c).answer
      similar_told = by_clearance (λ l. (up_to_two l).0) (λ l. ap (λ (o : Outcome). told o.answer) (sym (of_three l)))

      pub similar_kept : Similar L b (outcome s c).state (outcome t c).state
      similar_kept = record {
        first = stays_sound s c x.first;
        second = stays_sound t c x.second;
        alike = λ l. (up_to_two l).1;
        equal = λ l. ap (λ (o : Outcome). o.state) (sym (of_three l));
        borders = kept_borders L t c k ∙ x.borders;
      }

    -- any other call in the first
    pub similar_other : (c : Call) → is_kept L c ≡ false → is_started (outcome s c).answer ≡ false → Similar L b (outcome s c).state t
    similar_other c k r = record {
      first = stays_sound s c x.first;
      second = x.second;
      alike = λ l. alike_trans (alike_sym (hidden L s c x.first k r)) (x.alike l);
      equal = λ l. unkept_still s b c (rw l at k) r ∙ x.equal l;
      borders = x.borders;
    }
