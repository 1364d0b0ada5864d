-- The steps over the slots' summaries are the steps of document 01.
use mathlib.Core.Path.{◌≡◌, refl, sym, ◌∙◌, ap}
use mathlib.Core.List.{List}
use mathlib.Core.Bool.{Bool, true, false, ◌&&◌, not}
use Prim.Native.Nat.{ℕ, ◌<◌, ◌≤◌}
use native.Mathlib.Omega.{arith}
use borrow.Author.Tests.{eqb-true}
use lib.Dec.{ltb, eqb}
use lib.ListN.{length, take, get_or, replicate, length-replicate}
use Rattle.std.proofs.lemmas.List.{get_or-take, length-take-le}
use Rattle.std.specs.Prelude.{Option, Some, None}
use Rattle.seq.specs.Below.{pick_below, at_found}
use Rattle.seq.specs.declared.Found.{Found}
use Rattle.seq.specs.declared.Found.TheVariants.{At, Nowhere}
use Rattle.seq.proofs.Tests.{and_true, and_when, parts}
use Rattle.seq.proofs.EachLaws.{each_below_length, each_below_reached}
use Rattle.seq.proofs.PickLaws.{pick_same, picked_same}
use Rattle.model.specs.declared.Rank.{Rank}
use Rattle.model.specs.declared.State.{State}
use Rattle.model.specs.Parties.{level_of}
use Rattle.model.specs.State.{empty_slot, slot_at}
use Rattle.model.specs.Words.{is_filled, pins, seen, dormant, outranks, best_holder, latest_touch}
use Rattle.model.proofs.SeenLaws.{seen_held}
use Rattle.rules.specs.Choice.{or_else, step_a, before_dormant, step_b, holder_level, held_above, highest_level, pinned_at, in_c, in_d, held_at_own_level, seen_pin, in_e, in_f, before_held, step_held, chosen}
use Rattle.choice.specs.declared.Holders.{Holders}
use Rattle.choice.specs.declared.Summary.{Summary}
use Rattle.choice.specs.Inner.Summary.{rank_in, latest_below, pinned_below, holders_at, holders_below, above, beside, summary_of, no_summary, summaries_in, SummariesOf}
use Rattle.choice.specs.Inner.Search.{pick_in, held_so, is_dormant, dormant_before, dormant_in, level_at, top_from, in_step_c, in_step_d, in_step_e, in_step_f, held_before, held_from}
use Rattle.choice.proofs.SearchLaws.{pick_front, top_is}
use Rattle.choice.proofs.BestLaws.{holders_at_lem, held_best, held_is, above_is, beside_is, seen_pin_lem}

-- a test of all that is asked of the holders is the tests of each
abbrev pinned_in : Option Holders → Bool
pinned_in o = held_so o (λ w. w.pinned)

c_parts : (o : Option Holders) (me : Rank) (top : ℕ) → held_so o (λ w. above me w && eqb w.rank.level top && not w.pinned) ≡ held_so o (above me) && eqb (level_at o) top && not (pinned_in o)
c_parts None me top = refl
c_parts (Some w) me top = refl

d_parts : (o : Option Holders) (me : Rank) (top : ℕ) → held_so o (λ w. above me w && eqb w.rank.level top && w.pinned) ≡ held_so o (above me) && eqb (level_at o) top && pinned_in o
d_parts None me top = refl
d_parts (Some w) me top = refl

e_parts : (o : Option Holders) (me : Rank) → held_so o (λ w. beside me w && not w.pinned) ≡ held_so o (beside me) && not (pinned_in o)
e_parts None me = refl
e_parts (Some w) me = refl

f_parts : (o : Option Holders) (me : Rank) (own : Bool) → held_so o (λ w. beside me w && w.pinned && not own) ≡ held_so o (beside me) && pinned_in o && not own
f_parts None me own = refl
f_parts (Some w) me own = refl

-- the requester's rank
abbrev rank_me : State → ℕ → Rank
rank_me s me = rank_in s.rows s.places me

module _ (s : State) (me : ℕ) where
  abbrev o : ℕ → Option Holders
  o i = holders_below s i 32

  same_dormant : (i : ℕ) → is_dormant (summary_of s me i) ≡ dormant s i
  unfolding dormant holders_below best_holder
  same_dormant i = ap (λ (x : Bool). is_filled (slot_at s i).content && not x) (held_is s i (best_holder s i) refl)

  same_above : (i : ℕ) → held_so (o i) (above (rank_me s me)) ≡ held_above s me i
  unfolding holders_below best_holder
  same_above i = above_is s i me (best_holder s i) refl

  same_beside : (i : ℕ) → held_so (o i) (beside (rank_me s me)) ≡ held_at_own_level s me i
  unfolding holders_below best_holder
  same_beside i = beside_is s i me (best_holder s i) refl

  same_level : (i : ℕ) → level_at (o i) ≡ holder_level s i
  unfolding holders_below best_holder holder_level
  same_level i = go (best_holder s i)
    where
      go : (f : Found) → level_at (holders_at s i 32 f) ≡ at_found f level_of 0
      go Nowhere = refl
      go (At b) = refl

  -- a slot in a step from c to f is held; its summary is by its best holder
  above_best : (i : ℕ) → held_above s me i ≡ true → (b : ℕ) × (best_holder s i ≡ At b)
  unfolding held_above
  above_best i e = held_best s i (search parts)

  beside_best : (i : ℕ) → held_at_own_level s me i ≡ true → (b : ℕ) × (best_holder s i ≡ At b)
  unfolding held_at_own_level
  beside_best i e = held_best s i (seen_held s (level_of me) i (and_true (seen s (level_of me) i) _ e).0)

  same_before : (i j : ℕ) → (a : ℕ) × (best_holder s i ≡ At a) → (b : ℕ) × (best_holder s j ≡ At b) → held_before (summary_of s me i) (summary_of s me j) ≡ before_held s i j
  unfolding before_held outranks holder_level latest_below latest_touch
  same_before i j (a, e) (b, w) = rw (holders_at_lem s i (At a) e, holders_at_lem s j (At b) w, e, w)

  same_pinned : (i : ℕ) → (a : ℕ) × (best_holder s i ≡ At a) → pinned_in (o i) ≡ pinned_at s (holder_level s i) i
  unfolding holder_level pinned_below pinned_at
  same_pinned i (a, e) = rw (holders_at_lem s i (At a) e, e)

  -- where the best holder's level is M, and where it is the requester's
  pinned_top : (i : ℕ) → held_above s me i && eqb (holder_level s i) (highest_level s me) ≡ true → pinned_in (o i) ≡ pinned_at s (highest_level s me) i
  pinned_top i e =
      let x = and_true (held_above s me i) _ e in
      same_pinned i (above_best i x.0) ∙ ap (λ (level : ℕ). pinned_at s level i) (eqb-true (holder_level s i) (highest_level s me) x.1)

  pinned_own : (i : ℕ) → held_at_own_level s me i ≡ true → pinned_in (o i) ≡ seen_pin s (level_of me) i
  unfolding pinned_below pinned_at
  pinned_own i e = let x = beside_best i e in rw (holders_at_lem s i (At x.0) x.1) (seen_pin_lem s i me x.0 x.1 e)

  same_c : (i : ℕ) → in_step_c (rank_me s me) (highest_level s me) (summary_of s me i) ≡ in_c s me i
  unfolding in_c
  same_c i = c_parts (o i) (rank_me s me) (highest_level s me) ∙ rw (same_above i, same_level i) (and_when _ _ _ (λ h. ap not (pinned_top i h)))

  same_d : (i : ℕ) → in_step_d (rank_me s me) (highest_level s me) (summary_of s me i) ≡ in_d s me i
  unfolding in_d
  same_d i = d_parts (o i) (rank_me s me) (highest_level s me) ∙ rw (same_above i, same_level i) (and_when _ _ _ (pinned_top i))

  same_e : (i : ℕ) → in_step_e (rank_me s me) (summary_of s me i) ≡ in_e s me i
  unfolding in_e
  same_e i = e_parts (o i) (rank_me s me) ∙ rw (same_beside i) (and_when _ _ _ (λ h. ap not (pinned_own i h)))

  same_f : (i : ℕ) → in_step_f (rank_me s me) (summary_of s me i) ≡ in_f s me i
  unfolding in_f
  same_f i = f_parts (o i) (rank_me s me) (pins s i me) ∙ rw (same_beside i) (ap (λ (x : Bool). x && not (pins s i me)) (and_when _ _ _ (pinned_own i)))

  module _ (m : List Summary) (size : length m ≡ s.size) (summary_at : (i : ℕ) → i < s.size → get_or m i no_summary ≡ summary_of s me i) where
    -- a search over the summaries is one over the slots
    same_search : (p : Summary → Bool) (before : Summary → Summary → Bool) (q : ℕ → Bool) (after : ℕ → ℕ → Bool) → ((i : ℕ) → p (summary_of s me i) ≡ q i)
        → ((i j : ℕ) → q i ≡ true → q j ≡ true → before (summary_of s me i) (summary_of s me j) ≡ after i j)
        → pick_in m p before no_summary ≡ pick_below s.size q after
    unfolding pick_in
    same_search p before q after f g =
        rw size (pick_same (λ i. p (get_or m i no_summary)) q (λ i j. before (get_or m i no_summary) (get_or m j no_summary)) after s.size test
        (λ i j h k u v. rw (summary_at i h, summary_at j k) (g i j (sym (test i h) ∙ u) (sym (test j k) ∙ v))))
      where
        test : (i : ℕ) → i < s.size → p (get_or m i no_summary) ≡ q i
        test i h = ap p (summary_at i h) ∙ f i

    dormant_chosen : dormant_in m ≡ step_b s
    unfolding dormant_in step_b before_dormant
    dormant_chosen = same_search is_dormant (λ x y. dormant_before x.slot y.slot) (dormant s) (before_dormant s) same_dormant (λ i j _ _. refl)

    same_top : top_from m (rank_me s me) ≡ highest_level s me
    unfolding highest_level
    same_top = top_is m (rank_me s me) ∙ rw size (picked_same _ (held_above s me) _ (λ i j. ltb (holder_level s j) (holder_level s i)) _ (holder_level s) 0 s.size
        (λ i h. rw (summary_at i h) (same_above i))
        (λ i j h k _ _. rw (summary_at i h, summary_at j k, same_level i, same_level j))
        (λ i h _. rw (summary_at i h) (same_level i)))

    same_held : (p : Summary → Bool) (q : ℕ → Bool) → ((i : ℕ) → p (summary_of s me i) ≡ q i) → ((i : ℕ) → q i ≡ true → (b : ℕ) × (best_holder s i ≡ At b))
        → pick_in m p held_before no_summary ≡ step_held s q
    unfolding step_held
    same_held p q f g = same_search p held_before q (before_held s) f (λ i j u v. same_before i j (g i u) (g j v))

    -- steps c to f by summaries
    same_choice : held_from m (rank_me s me) ≡ or_else (step_held s (in_c s me)) (or_else (step_held s (in_d s me)) (or_else (step_held s (in_e s me)) (step_held s (in_f s me))))
    unfolding held_from in_c in_d in_e in_f
    same_choice = rw (
      same_top,
      same_held (in_step_c (rank_me s me) (highest_level s me)) (in_c s me) same_c (λ i e. above_best i (search parts depth 20)),
      same_held (in_step_d (rank_me s me) (highest_level s me)) (in_d s me) same_d (λ i e. above_best i (search parts depth 20)),
      same_held (in_step_e (rank_me s me)) (in_e s me) same_e (λ i e. beside_best i (search parts depth 20)),
      same_held (in_step_f (rank_me s me)) (in_f s me) same_f (λ i e. beside_best i (search parts depth 20)),
    )

-- step a over the slots
pub empty_found : (s : State) (f : Found) → s.size ≤ length s.slots → f ≡ pick_in (take s.size s.slots) (λ x. not (is_filled x.content)) (λ x y. false) empty_slot → f ≡ step_a s
unfolding step_a
empty_found s f h e = e ∙ pick_front s.slots (λ x. not (is_filled x.content)) (λ x y. false) empty_slot s.size h

-- the summaries of the slots started with
pub summaries_at : (s : State) (me : ℕ) (all : List Summary) → s.size ≤ 64 → all ≡ summaries_in s me → SummariesOf s me s.size all
unfolding summaries_in
summaries_at s me all most e = rw e (
  each_below_length (λ slot _. summary_of s me slot) (replicate 64 no_summary) s.size ∙ length-replicate 64 no_summary,
  λ slot h. each_below_reached (λ slot _. summary_of s me slot) (replicate 64 no_summary) s.size slot no_summary h (rw (length-replicate 64 no_summary) (omega arith)),
)

-- steps b to f over the summaries, where step a finds nothing
pub choice_made : (s : State) (me : ℕ) (all : List Summary) → s.size ≤ 64 → SummariesOf s me s.size all → step_a s ≡ Nowhere
    → chosen s me ≡ or_else (dormant_in (take s.size all)) (held_from (take s.size all) (rank_me s me))
unfolding chosen
choice_made s me all most (long, at) e =
    let size = length-take-le s.size all (omega arith) in
    let summary_at : (i : ℕ) → i < s.size → get_or (take s.size all) i no_summary ≡ summary_of s me i = λ i h. get_or-take s.size all i no_summary h ∙ at i h in
    rw (e, dormant_chosen s me (take s.size all) size summary_at, same_choice s me (take s.size all) size summary_at)
