-- Properties of some and of each entry of a list of fills, and of each with every later one.
use mathlib.Core.List.{List, [], ◌∷◌, ◌++◌}
use mathlib.Core.Logic.{◌⊎◌, inl, inr}
use Rattle.rules.specs.Listed.{EachFill, SomeFill, EachLater}
use Rattle.rules.specs.Tries.{Fill}

pub some_left : (P : Fill → Type 0) (xs ys : List Fill) → SomeFill P xs → SomeFill P (xs ++ ys)
some_left P [] ys h = absurd h
some_left P (x ∷ xs) ys (inl h) = inl h
some_left P (x ∷ xs) ys (inr h) = inr (some_left P xs ys h)

pub some_right : (P : Fill → Type 0) (xs ys : List Fill) → SomeFill P ys → SomeFill P (xs ++ ys)
some_right P [] ys h = h
some_right P (x ∷ xs) ys h = inr (some_right P xs ys h)

pub some_either : (P : Fill → Type 0) (xs ys : List Fill) → SomeFill P (xs ++ ys) → SomeFill P xs ⊎ SomeFill P ys
some_either P [] ys h = inr h
some_either P (x ∷ xs) ys (inl h) = inl (inl h)
some_either P (x ∷ xs) ys (inr h) = go (some_either P xs ys h)
  where
    go : SomeFill P xs ⊎ SomeFill P ys → SomeFill P (x ∷ xs) ⊎ SomeFill P ys
    go (inl k) = inl (inr k)
    go (inr k) = inr k

pub some_fill : (P Q : Fill → Type 0) → ((f : Fill) → P f → Q f) → (fs : List Fill) → SomeFill P fs → SomeFill Q fs
some_fill P Q k [] h = absurd h
some_fill P Q k (f ∷ fs) (inl h) = inl (k f h)
some_fill P Q k (f ∷ fs) (inr h) = inr (some_fill P Q k fs h)

pub each_some : (P Q : Fill → Type 0) (fs : List Fill) → EachFill P fs → SomeFill Q fs → (f : Fill) × P f × Q f
each_some P Q [] h k = absurd k
each_some P Q (f ∷ fs) h (inl k) = (f, h.0, k)
each_some P Q (f ∷ fs) h (inr k) = each_some P Q fs h.1 k

pub some_each : (P Q : Fill → Type 0) (fs : List Fill) → EachFill P fs → SomeFill Q fs → SomeFill (λ f. P f × Q f) fs
some_each P Q [] h k = absurd k
some_each P Q (f ∷ fs) h (inl k) = inl (h.0, k)
some_each P Q (f ∷ fs) h (inr k) = inr (some_each P Q fs h.1 k)

pub each_fill : (P Q : Fill → Type 0) → ((f : Fill) → P f → Q f) → (fs : List Fill) → EachFill P fs → EachFill Q fs
each_fill P Q k [] h = tt
each_fill P Q k (f ∷ fs) h = (k f h.0, each_fill P Q k fs h.1)

each_both : (P Q : Fill → Type 0) (fs : List Fill) → EachFill P fs → EachFill Q fs → EachFill (λ f. P f × Q f) fs
each_both P Q [] h k = tt
each_both P Q (f ∷ fs) h k = ((h.0, k.0), each_both P Q fs h.1 k.1)

pub each_later : (P : Fill → Type 0) (R S : Fill → Fill → Type 0) → ((f g : Fill) → P f → P g → R f g → S f g) → (fs : List Fill) → EachFill P fs → EachLater R fs → EachLater S fs
each_later P R S k [] h o = tt
each_later P R S k (f ∷ fs) h o = (
  each_fill (λ g. P g × R f g) (S f) (λ g x. k f g h.0 x.0 x.1) fs (each_both P (R f) fs h.1 o.0),
  each_later P R S k fs h.1 o.1,
)
