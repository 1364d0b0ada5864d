-- An answer is ready or fetch, or it fills nothing and tells the server nothing.
use mathlib.Core.Path.{◌≡◌, refl}
use mathlib.Core.List.{[]}
use Prim.Native.Nat.{ℕ}
use Rattle.std.specs.Prelude.{Option}
use Rattle.model.specs.declared.Answer.{Answer}
use Rattle.model.specs.declared.Answer.TheVariants.{
  Refused,
  Started,
  Begun,
  Ready,
  Fetch,
  Wait,
  Unpinned,
  Ended,
  Clock,
  RowFree,
  RowIdle,
  RowFetching,
  RowWaiting,
  RowKilled,
  PageUnseen,
  PageActive,
  PageRead,
  PageWrite,
  PageDormant,
  Open,
  Bordered,
}
use Rattle.rules.specs.Answers.{back_told}
use Rattle.rules.specs.Tries.{filled_by}

pub by_slot : {P : Type 0} (a : Answer) → ((slot : ℕ) (back : Option ℕ) → a ≡ Ready slot back → P) → ((due slot : ℕ) (back : Option ℕ) → a ≡ Fetch due slot back → P)
    → (((row page : ℕ) → filled_by row page a ≡ []) → back_told a ≡ 0 → P) → P
unfolding back_told
by_slot (Ready slot back) ready fetch other = ready slot back refl
by_slot (Fetch due slot back) ready fetch other = fetch due slot back refl
by_slot (Refused number) ready fetch other = other (λ _ _. refl) refl
by_slot Started ready fetch other = other (λ _ _. refl) refl
by_slot Begun ready fetch other = other (λ _ _. refl) refl
by_slot Wait ready fetch other = other (λ _ _. refl) refl
by_slot Unpinned ready fetch other = other (λ _ _. refl) refl
by_slot Ended ready fetch other = other (λ _ _. refl) refl
by_slot (Clock clock) ready fetch other = other (λ _ _. refl) refl
by_slot RowFree ready fetch other = other (λ _ _. refl) refl
by_slot RowIdle ready fetch other = other (λ _ _. refl) refl
by_slot (RowFetching due) ready fetch other = other (λ _ _. refl) refl
by_slot RowWaiting ready fetch other = other (λ _ _. refl) refl
by_slot (RowKilled cause) ready fetch other = other (λ _ _. refl) refl
by_slot PageUnseen ready fetch other = other (λ _ _. refl) refl
by_slot (PageActive arrival) ready fetch other = other (λ _ _. refl) refl
by_slot (PageRead arrival) ready fetch other = other (λ _ _. refl) refl
by_slot (PageWrite arrival) ready fetch other = other (λ _ _. refl) refl
by_slot (PageDormant arrival) ready fetch other = other (λ _ _. refl) refl
by_slot (Open count) ready fetch other = other (λ _ _. refl) refl
by_slot Bordered ready fetch other = other (λ _ _. refl) refl
