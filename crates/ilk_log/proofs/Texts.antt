-- The text that is written for a step is its line.
use Rattle.std.proofs.Common.{◌≡◌, ℕ, ◌+◌, List, [], ◌∷◌, ◌++◌, map, flat_map, take, refl, sym, ap, ◌∙◌, append_assoc}
use Rattle.std.specs.Prelude.{codes, slice_get, Some}
use Rattle.std.specs.Fmt.{decimal}
use Rattle.std.proofs.lemmas.List.{append-nil}
use Rattle.std.proofs.lemmas.Option.{slice_get_within, get_or_from_slice_get}
use Rattle.ilk_base.proofs.FlatMaps.{flat_map-grows}
use Rattle.ilk_cnf.specs.Literal.{Literal}
use Rattle.ilk_lines.specs.Lines.{Bytes}
use Rattle.ilk_lines.specs.Written.{join_words_with_spaces}
use Rattle.ilk_log.specs.declared.step.Step.{Step}
use Rattle.ilk_log.specs.StepText.{lit_word, step_words, step_text}

abbrev led : List Bytes → Bytes
led words = flat_map (λ w. 32 ∷ w) words

line-led : (word : Bytes) (words : List Bytes) → join_words_with_spaces (word ∷ words) ≡ word ++ led words
line-led word [] = sym (append-nil word)
line-led word (next ∷ more) = ap (λ (x : Bytes). word ++ (32 ∷ x)) (line-led next more)

led-append : (xs ys : List Bytes) → led (xs ++ ys) ≡ led xs ++ led ys
led-append [] ys = refl
led-append (x ∷ xs) ys = ap (λ (t : Bytes). (32 ∷ x) ++ t) (led-append xs ys) ∙ sym (append_assoc (32 ∷ x) (led xs) (led ys))

led-map : {A : Type 0} (f : A → Bytes) (xs : List A) → led (map f xs) ≡ flat_map (λ x. 32 ∷ f x) xs
led-map f [] = refl
led-map f (x ∷ xs) = ap (λ (t : Bytes). (32 ∷ f x) ++ t) (led-map f xs)

pub text_is : (start : Bytes) (s : Step) → ((((start ++ codes "step") ++ flat_map (λ (l : Literal). 32 ∷ lit_word l) s.clause) ++ codes " 0") ++ flat_map (λ (n : ℕ). 32 ∷ decimal n) s.hints) ++ codes " 0" ≡ start ++ step_text s
text_is start s =
    let c : Bytes = flat_map (λ (l : Literal). 32 ∷ lit_word l) s.clause in
    let h : Bytes = flat_map (λ (n : ℕ). 32 ∷ decimal n) s.hints in
    let w : Bytes = codes "step" in
    let z : Bytes = codes " 0" in
    let whole = line-led w (map lit_word s.clause ++ (codes "0" ∷ (map decimal s.hints ++ codes "0" ∷ []))) in
    let lits = led-append (map lit_word s.clause) (codes "0" ∷ (map decimal s.hints ++ codes "0" ∷ [])) in
    let hints = led-append (map decimal s.hints) (codes "0" ∷ []) in
    let right : join_words_with_spaces (step_words s) ≡ w ++ (c ++ (z ++ (h ++ z))) =
    whole
    ∙ ap (λ (t : Bytes). w ++ t)
    (lits
    ∙ ap (λ (t : Bytes). t ++ led (codes "0" ∷ (map decimal s.hints ++ codes "0" ∷ [])))
    (led-map lit_word s.clause)
    ∙ ap (λ (t : Bytes). c ++ (z ++ t))
    (hints ∙ ap (λ (t : Bytes). t ++ z) (led-map decimal s.hints))) in
    regroup start w c z h z ∙ ap (λ (t : Bytes). start ++ t) (sym right)
  where
    regroup : (t a b c d e : List ℕ) → ((((t ++ a) ++ b) ++ c) ++ d) ++ e ≡ t ++ (a ++ (b ++ (c ++ (d ++ e))))
    regroup t a b c d e = simp append_assoc

pub numbers-grow : (start now next : Bytes) (ns : List ℕ) (i n : ℕ) → slice_get ns i ≡ Some n →
    now ≡ start ++ flat_map (λ k. 32 ∷ decimal k) (take i ns) → next ≡ (now ++ 32 ∷ []) ++ decimal n →
    next ≡ start ++ flat_map (λ k. 32 ∷ decimal k) (take (i + 1) ns)
numbers-grow start now next ns i n at sofar grown =
    let f : ℕ → Bytes = λ k. 32 ∷ decimal k in
    let before : Bytes = flat_map f (take i ns) in
    let more = flat_map-grows f ns i 0 before (before ++ f n) (slice_get_within ns i n at) refl (ap (λ (k : ℕ). before ++ f k) (sym (get_or_from_slice_get ns i n 0 at))) in
    grown
    ∙ ap (λ (t : Bytes). (t ++ 32 ∷ []) ++ decimal n) sofar
    ∙ append_assoc (start ++ before) (32 ∷ []) (decimal n)
    ∙ append_assoc start before (32 ∷ decimal n)
    ∙ ap (λ (t : Bytes). start ++ t) more
