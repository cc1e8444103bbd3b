use Rattle.std.proofs.Common.{◌≡◌, ℕ, zero, suc, ◌+◌, ◌≤◌, Some, List, [], ◌∷◌, ◌++◌, drop, length, map, slice_get, refl, sym, ◌∙◌, ap, arith, append_assoc}
use Rattle.std.specs.List.{enumerate_from, range_with_len}
use Rattle.std.specs.Option.{option_to_list}
use Rattle.std.proofs.lemmas.List.{map-append}
use Rattle.ilk_base.proofs.Ranges.{pushed}
use Rattle.ilk_ir.specs.Form.{tree_of}
use Rattle.ilk_ir.specs.Tree.{Tree, is}
use Rattle.ilk_ir.specs.declared.form.Form.{Form}

pub form_made : (f : ℕ → Tree) (n : ℕ) (now next : List Form) (form : Form) → map tree_of now ≡ map f (range_with_len 0 n) → next ≡ now ++ form ∷ [] → tree_of form ≡ f n → map tree_of next ≡ map f (range_with_len 0 (n + 1))
form_made f n now next form sofar grown made =
    pushed f n (map tree_of now) (map tree_of next) (tree_of form) (ap (map tree_of) grown ∙ map-append tree_of now (form ∷ [])) sofar made

rest_at : (xs : List ℕ) (i : ℕ) → drop i xs ≡ option_to_list (slice_get xs i) ++ drop (suc i) xs
rest_at [] zero = refl
rest_at [] (suc i) = refl
rest_at (x ∷ xs) zero = refl
rest_at (x ∷ xs) (suc i) = rest_at xs i

pub next_made : (f : ℕ → Tree) (xs : List ℕ) (i : ℕ) (now next all : List Tree) → now ++ map f (drop i xs) ≡ all → next ≡ now ++ map f (option_to_list (slice_get xs i)) → next ++ map f (drop (i + 1) xs) ≡ all
next_made f xs i now next all sofar grown =
    let one : i + 1 ≡ suc i = omega arith in
    ap (λ ts. ts ++ map f (drop (i + 1) xs)) grown
    ∙ append_assoc now (map f (option_to_list (slice_get xs i))) (map f (drop (i + 1) xs))
    ∙ ap (λ ts. now ++ ts) (ap (λ k. map f (option_to_list (slice_get xs i)) ++ map f (drop k xs)) one ∙ sym (map-append f (option_to_list (slice_get xs i)) (drop (suc i) xs)) ∙ ap (map f) (sym (rest_at xs i)))
    ∙ sofar

append_none : (ts : List Tree) → ts ++ [] ≡ ts
append_none [] = refl
append_none (t ∷ ts) = ap (λ us. t ∷ us) (append_none ts)

pub three_made : (start one two three a b c : List Tree) → one ≡ start ++ a → two ≡ one ++ b → three ≡ two ++ c → three ≡ start ++ (a ++ (b ++ c))
three_made start one two three a b c first second third =
    third ∙ ap (λ ts. ts ++ c) (second ∙ ap (λ ts. ts ++ b) first) ∙ append_assoc (start ++ a) b c ∙ append_assoc start a (b ++ c)

-- Each variable from `v` on has its value among these.
abbrev pub each_has : ℕ → List ℕ → List Tree
each_has v values = map (λ place. is place.0 place.1) (enumerate_from v values)

pub value_made : (values : List ℕ) (v value : ℕ) (now next : List Form) (form : Form) (all : List Tree) →
    slice_get values v ≡ Some value → map tree_of now ++ each_has v (drop v values) ≡ all →
    next ≡ now ++ form ∷ [] → tree_of form ≡ is v value →
    map tree_of next ++ each_has (v + 1) (drop (v + 1) values) ≡ all
value_made values v value now next form all at sofar grown made =
    let one : v + 1 ≡ suc v = omega arith in
    let rest : drop v values ≡ value ∷ drop (suc v) values = rest_at values v ∙ ap (λ o. option_to_list o ++ drop (suc v) values) at in
    ap (λ ts. ts ++ each_has (v + 1) (drop (v + 1) values)) (ap (map tree_of) grown ∙ map-append tree_of now (form ∷ []) ∙ ap (λ t. map tree_of now ++ t ∷ []) made)
    ∙ append_assoc (map tree_of now) (is v value ∷ []) (each_has (v + 1) (drop (v + 1) values))
    ∙ ap (λ ts. map tree_of now ++ ts) (ap (λ k. is v value ∷ each_has (v + 1) (drop k values)) one ∙ sym (ap (each_has v) rest))
    ∙ sofar

pub values_made : (values : List ℕ) (v : ℕ) (now all : List Tree) → length values ≤ v → now ++ each_has v (drop v values) ≡ all → now ≡ all
values_made values v now all past sofar =
    sym (append_none now) ∙ sym (ap (λ xs. now ++ each_has v xs) (gone values v past)) ∙ sofar
  where
    gone : (xs : List ℕ) (k : ℕ) → length xs ≤ k → drop k xs ≡ []
    gone [] zero past = refl
    gone [] (suc k) past = refl
    gone (x ∷ xs) zero past = absurd (omega (arith, past))
    gone (x ∷ xs) (suc k) past = gone xs k (omega (arith, past))
