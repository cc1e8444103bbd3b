-- Chains of numbers from a first to a last, for any forward step with its backward step.
use Rattle.std.proofs.Common.{◌≡◌, ℕ, zero, suc, ◌+◌, ◌<◌, Option, Some, None, List, [], ◌∷◌, length, slice_get, ◌⊎◌, inl, inr, refl, sym, ◌∙◌, ap, subst, arith}
use Rattle.std.proofs.lemmas.Option.{none-some, same_Some}
use Rattle.ilk_layout.specs.Decoded.{iterates_until_none, optional_first_then_followers}

-- Holds if `x` leads to the first of the rest, each number to the next, and the last to none.
abbrev pub IsChain : (ℕ → Option ℕ) → ℕ → List ℕ → Type 0
IsChain f x [] = f x ≡ None
IsChain f x (y ∷ rest) = (f x ≡ Some y) × IsChain f y rest

-- Like `IsChain`, but the last may lead on.
abbrev pub IsWalk : (ℕ → Option ℕ) → ℕ → List ℕ → Type 0
IsWalk f x [] = Unit {0}
IsWalk f x (y ∷ rest) = (f x ≡ Some y) × IsWalk f y rest

iterates_until_none-ends : (f : ℕ → Option ℕ) (k x : ℕ) → IsChain f x (iterates_until_none k f x) ⊎ ((walk : List ℕ) × IsWalk f x walk × (length walk ≡ k))
iterates_until_none-ends f zero x = inr ([], tt, refl)
iterates_until_none-ends f (suc k) x = by_next (iterates_until_none-ends f k) (f x) refl
  where
    by_next : ((y : ℕ) → IsChain f y (iterates_until_none k f y) ⊎ ((walk : List ℕ) × IsWalk f y walk × (length walk ≡ k))) → (o : Option ℕ) → f x ≡ o → IsChain f x (iterates_until_none (suc k) f x)
        ⊎ ((walk : List ℕ) × IsWalk f x walk × (length walk ≡ suc k))
    by_next ih None e = inl (let P : Option ℕ → Type 0 = λ o. IsChain f x (optional_first_then_followers (iterates_until_none k f) o) in subst P (sym e) e)
    by_next ih (Some y) e =
        elim (ih y) [
          | inl chain ↦ inl (let P : Option ℕ → Type 0 = λ o. IsChain f x (optional_first_then_followers (iterates_until_none k f) o) in subst P (sym e) (e, chain))
          | inr more ↦ inr (y ∷ more.0, (e, more.1), ap suc more.2)
        ]

pub chain-same : (f : ℕ → Option ℕ) (x : ℕ) (r s : List ℕ) → IsChain f x r → IsChain f x s → r ≡ s
chain-same f x [] [] c d = refl
chain-same f x [] (y ∷ s) c d = absurd (none-some y (sym c ∙ d.0))
chain-same f x (y ∷ r) [] c d = absurd (none-some y (sym d ∙ c.0))
chain-same f x (y ∷ r) (z ∷ s) c d =
    let same : y ≡ z = same_Some y z (sym c.0 ∙ d.0) in
    let P : ℕ → Type 0 = λ v. IsChain f v s in
    let rest : r ≡ s = chain-same f y r s c.1 (subst P (sym same) d.1) in
    cc

pub chain-walk : (f : ℕ → Option ℕ) (x : ℕ) (rest : List ℕ) → IsChain f x rest → IsWalk f x rest
chain-walk f x [] c = tt
chain-walk f x (y ∷ rest) c = (c.0, chain-walk f y rest c.1)

pub chain-before : (f : ℕ → Option ℕ) (a : ℕ) (rest : List ℕ) (i x : ℕ) → IsChain f a rest → slice_get (a ∷ rest) (suc i) ≡ Some x → (w : ℕ) × (slice_get (a ∷ rest) i ≡ Some w) × (f w ≡ Some x)
chain-before f a [] i x c at = cc
chain-before f a (y ∷ rest) zero x c at = (a, refl, c.0 ∙ at)
chain-before f a (y ∷ rest) (suc i) x c at = chain-before f y rest i x c.1 at

pub chain-after : (f : ℕ → Option ℕ) (a : ℕ) (rest : List ℕ) (i x y : ℕ) → IsChain f a rest → slice_get (a ∷ rest) i ≡ Some x → f x ≡ Some y → slice_get (a ∷ rest) (suc i) ≡ Some y
chain-after f a [] zero x y c at e = let same : a ≡ x = same_Some a x at in absurd (none-some y (sym c ∙ ap f same ∙ e))
chain-after f a [] (suc i) x y c at e = cc
chain-after f a (z ∷ rest) zero x y c at e = let same : a ≡ x = same_Some a x at in sym c.0 ∙ ap f same ∙ e
chain-after f a (z ∷ rest) (suc i) x y c at e = chain-after f z rest i x y c.1 at e

pub chain-last : (f : ℕ → Option ℕ) (a : ℕ) (rest : List ℕ) (i x : ℕ) → IsChain f a rest → slice_get (a ∷ rest) i ≡ Some x → i + 1 ≡ length (a ∷ rest) → f x ≡ None
chain-last f a [] zero x c at e = let same : a ≡ x = same_Some a x at in ap f (sym same) ∙ c
chain-last f a [] (suc i) x c at e = cc
chain-last f a (z ∷ rest) zero x c at e = absurd (omega arith)
chain-last f a (z ∷ rest) (suc i) x c at e = chain-last f z rest i x c.1 at (omega arith)

-- A forward and a backward step over the numbers `On`, with no walk of `n` or more steps.
pub record GoesBack (n : ℕ) (On : ℕ → Type 0) (f b : ℕ → Option ℕ) : Type 0 where
  pub back : (x y : ℕ) → On x → f x ≡ Some y → b y ≡ Some x
  pub forth : (x y : ℕ) → On x → b x ≡ Some y → f y ≡ Some x
  pub on_forth : (x y : ℕ) → On x → f x ≡ Some y → On y
  pub on_back : (x y : ℕ) → On x → b x ≡ Some y → On y
  pub short_forth : (x : ℕ) (walk : List ℕ) → On x → IsWalk f x walk → length walk < n
  pub short_back : (x : ℕ) (walk : List ℕ) → On x → IsWalk b x walk → length walk < n

module _ (n : ℕ) (On : ℕ → Type 0) (f b : ℕ → Option ℕ) (g : GoesBack n On f b) where
  pub chased : (x : ℕ) → On x → IsChain f x (iterates_until_none n f x)
  chased x on =
      elim (iterates_until_none-ends f n x) [
        | inl chain ↦ chain
        | inr more ↦ (let short = g.short_forth x more.0 on more.1 in let long = more.2 in absurd (omega arith))
      ]

  pub chain-on : (a : ℕ) (rest : List ℕ) (i x : ℕ) → On a → IsChain f a rest → slice_get (a ∷ rest) i ≡ Some x → On x
  chain-on a rest zero x on c at = subst On (same_Some a x at) on
  chain-on a [] (suc i) x on c at = cc
  chain-on a (y ∷ rest) (suc i) x on c at = chain-on y rest i x (g.on_forth a y on c.0) c.1 at

  -- A number is in the chain of only one first number.
  pub one_first : (a c : ℕ) (r s : List ℕ) → On a → On c → IsChain f a r → IsChain f c s → b a ≡ None → b c ≡ None → (i j x : ℕ) → slice_get (a ∷ r) i ≡ Some x → slice_get (c ∷ s) j ≡ Some x → a ≡ c
  one_first a c r s ona onc ca cc_ fa fc zero zero x at also = same_Some a c (at ∙ sym also)
  one_first a c r s ona onc ca cc_ fa fc zero (suc j) x at also =
      let w = chain-before f c s j x cc_ also in
      let led : b x ≡ Some w.0 = g.back w.0 x (chain-on c s j w.0 onc cc_ w.1) w.2 in
      absurd (none-some w.0 (sym fa ∙ ap b (same_Some a x at) ∙ led))
  one_first a c r s ona onc ca cc_ fa fc (suc i) zero x at also =
      let w = chain-before f a r i x ca at in
      let led : b x ≡ Some w.0 = g.back w.0 x (chain-on a r i w.0 ona ca w.1) w.2 in
      absurd (none-some w.0 (sym fc ∙ ap b (same_Some c x also) ∙ led))
  one_first a c r s ona onc ca cc_ fa fc (suc i) (suc j) x at also =
      let w = chain-before f a r i x ca at in
      let v = chain-before f c s j x cc_ also in
      let led : b x ≡ Some w.0 = g.back w.0 x (chain-on a r i w.0 ona ca w.1) w.2 in
      let led_too : b x ≡ Some v.0 = g.back v.0 x (chain-on c s j v.0 onc cc_ v.1) v.2 in
      let same : v.0 ≡ w.0 = same_Some v.0 w.0 (sym led_too ∙ led) in
      one_first a c r s ona onc ca cc_ fa fc i j w.0 w.1 (v.1 ∙ ap Some same)

  -- `x` is in the chain of a first number, or there is a walk of `k` steps back.
  searched : (k x : ℕ) → On x → ((a : ℕ) × (i : ℕ) × On a × (b a ≡ None) × (slice_get (a ∷ iterates_until_none n f a) i ≡ Some x)) ⊎ ((walk : List ℕ) × IsWalk b x walk × (length walk ≡ k))
  searched zero x on = inr ([], tt, refl)
  searched (suc k) x on = by_before (searched k) (b x) refl
    where
      by_before :
          ((y : ℕ) → On y →
          ((a : ℕ) × (i : ℕ) × On a × (b a ≡ None) × (slice_get (a ∷ iterates_until_none n f a) i ≡ Some y))
          ⊎ ((walk : List ℕ) × IsWalk b y walk × (length walk ≡ k))) → (o : Option ℕ) → b x ≡ o →
          ((a : ℕ) × (i : ℕ) × On a × (b a ≡ None) × (slice_get (a ∷ iterates_until_none n f a) i ≡ Some x))
          ⊎ ((walk : List ℕ) × IsWalk b x walk × (length walk ≡ suc k))
      by_before ih None e = inl (x, zero, on, e, refl)
      by_before ih (Some y) e =
          elim (ih y (g.on_back x y on e)) [
            | inl found ↦ inl (found.0, suc found.1, found.2, found.3, chain-after f found.0 (iterates_until_none n f found.0) found.1 y x (chased found.0 found.2) found.4 (g.forth x y on e))
            | inr more ↦ inr (y ∷ more.0, (e, more.1), ap suc more.2)
          ]

  pub first_of : (x : ℕ) → On x → (a : ℕ) × (i : ℕ) × On a × (b a ≡ None) × (slice_get (a ∷ iterates_until_none n f a) i ≡ Some x)
  first_of x on =
      elim (searched n x on) [
        | inl found ↦ found
        | inr more ↦ (let short = g.short_back x more.0 on more.1 in let long = more.2 in absurd (omega arith))
      ]
