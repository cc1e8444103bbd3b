use Rattle.std.proofs.Common.{◌≡◌, ℕ, ◌+◌, List, [], ◌∷◌, ◌++◌, sym, ap, ◌∙◌, arith, append_assoc, append-nil, add-one}
use Rattle.std.specs.List.{flat_map, range_with_len}
use Rattle.std.proofs.lemmas.List.Concat.{flat_map-append}
use Rattle.ilk_base.proofs.Ranges.{range-suc}

stations-more : {X : Type 0} (f : ℕ → List X) (i : ℕ) → flat_map f (range_with_len 1 (i + 1)) ≡ flat_map f (range_with_len 1 i) ++ f (i + 1)
stations-more f i =
    let same : 1 + i ≡ i + 1 = omega arith in
    ap (λ k. flat_map f (range_with_len 1 k)) (add-one i)
    ∙ ap (flat_map f) (range-suc 1 i)
    ∙ flat_map-append f (range_with_len 1 i) ((1 + i) ∷ [])
    ∙ ap (λ xs. flat_map f (range_with_len 1 i) ++ xs) (append-nil (f (1 + i)) ∙ ap f same)

pub station-pushed : {X : Type 0} (f : ℕ → List X) (i : ℕ) (start now next : List X) → now ≡ start ++ flat_map f (range_with_len 1 i) → next ≡ now ++ f (i + 1) → next ≡ start ++ flat_map f (range_with_len 1 (i + 1))
station-pushed f i start now next sofar grown =
    grown ∙ ap (λ xs. xs ++ f (i + 1)) sofar ∙ append_assoc start (flat_map f (range_with_len 1 i)) (f (i + 1)) ∙ ap (λ xs. start ++ xs) (sym (stations-more f i))

pub one-more : {X : Type 0} (start done now next : List X) (x y : X) → now ≡ start ++ done → next ≡ now ++ x ∷ [] → x ≡ y → next ≡ start ++ (done ++ y ∷ [])
one-more start done now next x y sofar grown same =
    grown ∙ ap (λ xs. xs ++ x ∷ []) sofar ∙ append_assoc start done (x ∷ []) ∙ ap (λ z. start ++ (done ++ z ∷ [])) same

pub first-more : {X : Type 0} (start next : List X) (x y : X) → next ≡ start ++ x ∷ [] → x ≡ y → next ≡ start ++ y ∷ []
first-more start next x y grown same = grown ∙ ap (λ z. start ++ z ∷ []) same
