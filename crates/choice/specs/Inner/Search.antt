-- For the code; proved equal to the steps of chosen, proofs/ChoiceLaws.antt: a search over a list, and steps b to f as searches over the slots' summaries.
use Rattle.std.specs.Prelude.{◌≡◌, Bool, true, false, cond, ◌&&◌, not, List, ℕ, length, ltb, eqb, max, filter, get_or, Option, Some, None}
use Rattle.std.specs.List.{fold, filter_map}
use Rattle.std.specs.Fn.{FnReturnsAt, FnReturnsAtPair, Shared}
use denote.Ref.{Bor}
use Rattle.seq.specs.Below.{pick_below}
use Rattle.seq.specs.Order.{lex_less}
use Rattle.seq.specs.declared.Found.{Found}
use Rattle.model.specs.declared.Rank.{Rank}
use Rattle.model.specs.declared.Slot.{Slot}
use Rattle.model.specs.Parties.{better}
use Rattle.model.specs.Words.{is_filled, page_in, dirty_in, lowest_in}
use Rattle.rules.specs.Choice.{or_else, dirty_number}
use Rattle.choice.specs.declared.Holders.{Holders}
use Rattle.choice.specs.declared.Summary.{Summary}
use Rattle.choice.specs.Inner.Summary.{above, beside, no_summary}

-- of the items that pass p the one that comes before the others, and of equals the first; none: a value past the end
unfoldable pub pick_in : {X : Type 0} → List X → (X → Bool) → (X → X → Bool) → X → Found
pick_in items p before none = pick_below (length items) (λ i. p (get_or items i none)) (λ i j. before (get_or items i none) (get_or items j none))

-- each call of a test answers p of its item, and each of an order before of its two items
abbrev pub Tests : {T X : Type 0} → Shared T (Bor X × Unit {0}) Bool → T → (X → Bool) → Type 0
Tests calls test p = (x : _) (r : Bool) → FnReturnsAt calls test x r → r ≡ p x

abbrev pub Orders : {B X : Type 0} → Shared B (Bor X × (Bor X × Unit {0})) Bool → B → (X → X → Bool) → Type 0
Orders calls order before = (x y : _) (r : Bool) → FnReturnsAtPair calls order x y r → r ≡ before x y

-- a test of the holders, and false where there are none
abbrev pub held_so : Option Holders → (Holders → Bool) → Bool
held_so None p = false
held_so (Some w) p = p w

-- step b: of the dormant slots the one that comes first
abbrev pub is_dormant : Summary → Bool
is_dormant x = is_filled x.slot.content && not (held_so x.holders (λ w. true))

abbrev pub dormant_before : Slot → Slot → Bool
dormant_before x y =
    lex_less (lowest_in x.content) (lowest_in y.content)
    (lex_less (dirty_number (dirty_in x.content)) (dirty_number (dirty_in y.content))
    (ltb x.touch y.touch))

unfoldable pub dormant_in : List Summary → Found
dormant_in m = pick_in m is_dormant (λ x y. dormant_before x.slot y.slot) no_summary

-- M: the highest level of a best holder among the slots held only above the requester's level
abbrev pub level_at : Option Holders → ℕ
level_at None = 0
level_at (Some w) = w.rank.level

unfoldable pub top_from : List Summary → Rank → ℕ
top_from m requester = fold (λ top w. max top w.rank.level) 0 (filter (above requester) (filter_map (λ x. x.holders) m))

-- the slots in steps c to f; top: the level M
abbrev pub in_step_c : Rank → ℕ → Summary → Bool
in_step_c requester top x = held_so x.holders (λ w. above requester w && eqb w.rank.level top && not w.pinned)

abbrev pub in_step_d : Rank → ℕ → Summary → Bool
in_step_d requester top x = held_so x.holders (λ w. above requester w && eqb w.rank.level top && w.pinned)

abbrev pub in_step_e : Rank → Summary → Bool
in_step_e requester x = held_so x.holders (λ w. beside requester w && not w.pinned)

abbrev pub in_step_f : Rank → Summary → Bool
in_step_f requester x = held_so x.holders (λ w. beside requester w && w.pinned && not x.own)

-- which of two of them comes before the other; next: what decides between equals
abbrev pub held_less : Option Holders → Option Holders → Bool → Bool
held_less None w next = false
held_less (Some v) None next = false
held_less (Some v) (Some w) next = cond (eqb v.best w.best) (lex_less v.latest w.latest next) (better w.rank v.rank)

abbrev pub held_before : Summary → Summary → Bool
held_before x y = held_less x.holders y.holders (ltb (page_in x.slot.content) (page_in y.slot.content))

-- steps c to f, first that applies
unfoldable pub held_from : List Summary → Rank → Found
held_from m requester =
    or_else (pick_in m (in_step_c requester (top_from m requester)) held_before no_summary)
    (or_else (pick_in m (in_step_d requester (top_from m requester)) held_before no_summary)
    (or_else (pick_in m (in_step_e requester) held_before no_summary)
    (pick_in m (in_step_f requester) held_before no_summary)))
