-- The parts of a body, and of the trains, that a loop has collected.
use Rattle.std.proofs.Common.{◌≡◌, ℕ, suc, ◌+◌, ◌-◌, ◌<◌, filter_map, option_to_list, Option, Some, None, List, [], ◌∷◌, ◌++◌, refl, sym, ◌∙◌, ap, append_assoc, arith}
use Rattle.std.specs.List.{range_with_len}
use Rattle.std.proofs.lemmas.List.Elements.{filter_map-append}
use Rattle.ilk_base.proofs.Ranges.{range-more}
use Rattle.ilk_layout.specs.Decoded.{iterates_until_none, optional_first_then_followers}

pub one-more : (step : ℕ → Option ℕ) (n k x next : ℕ) (body new whole : List ℕ) → k < n → step x ≡ Some next → new ≡ body ++ next ∷ [] → body ++ iterates_until_none (n - k) step x ≡ whole → new ++ iterates_until_none (n - (k + 1)) step next ≡ whole
one-more step n k x next body new whole less led more sofar =
    let left : n - k ≡ suc (n - (k + 1)) = omega arith in
    let chased : iterates_until_none (n - k) step x ≡ next ∷ iterates_until_none (n - (k + 1)) step next = ap (λ m. iterates_until_none m step x) left ∙ ap (optional_first_then_followers (iterates_until_none (n - (k + 1)) step)) led in
    ap (λ xs. xs ++ iterates_until_none (n - (k + 1)) step next) more ∙ append_assoc body (next ∷ []) (iterates_until_none (n - (k + 1)) step next) ∙ ap (λ xs. body ++ xs) (sym chased) ∙ sofar

pub given-more : {X : Type 0} (f : ℕ → Option X) (n : ℕ) (now next : List X) → next ≡ now ++ option_to_list (f n) → now ≡ filter_map f (range_with_len 0 n) → next ≡ filter_map f (range_with_len 0 (n + 1))
given-more {X} f n now next grown sofar =
    grown ∙ ap (λ xs. xs ++ option_to_list (f n)) sofar ∙ ap (λ xs. filter_map f (range_with_len 0 n) ++ xs) (alone (f n) refl) ∙ sym (ap (filter_map f) (range-more n) ∙ filter_map-append f (range_with_len 0 n) (n ∷ []))
  where
    alone : (o : Option X) → f n ≡ o → option_to_list (f n) ≡ filter_map f (n ∷ [])
    alone None e = rw e refl
    alone (Some x) e = rw e refl
