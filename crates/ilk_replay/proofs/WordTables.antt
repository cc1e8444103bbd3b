-- Values that have a keyword each are read from that keyword alone.
use Rattle.std.proofs.Common.{◌≡◌, ℕ, Bool, true, false, ◌==◌, Option, Some, List, [], ◌∷◌, cond, refl, ap, ◌∙◌, subst}
use Rattle.std.specs.List.{list_all, list_any}
use Rattle.std.specs.Prelude.{not}
use Rattle.std.specs.Str.{bytes_eq}
use Rattle.std.proofs.lemmas.Bool.{and_parts, not-true}
use Rattle.std.proofs.lemmas.Option.{same_Some}
use Rattle.std.proofs.lemmas.Slice.Eq.{bytes_eq-Decides}
use Rattle.ilk_base.specs.Words.{first_value_with_word}
use Rattle.ilk_lines.specs.Lines.{Bytes}
use Rattle.ilk_lines.specs.Written.{LacksByte}

pub first_value_with_word-word : {A : Type 0} (word_of : A → Bytes) (values : List A) (word : Bytes) (v : A) → first_value_with_word word_of values word ≡ Some v → word ≡ word_of v
first_value_with_word-word word_of [] word v e = cc
first_value_with_word-word {A = A} word_of (x ∷ values) word v e = by_word (bytes_eq word (word_of x)) refl e (first_value_with_word-word word_of values word v)
  where
    by_word : (b : Bool) → bytes_eq word (word_of x) ≡ b → cond {A = Option A} b (Some x) (first_value_with_word word_of values word) ≡ Some v → (first_value_with_word word_of values word ≡ Some v → word ≡ word_of v) → word ≡ word_of v
    by_word true same that later = (bytes_eq-Decides word (word_of x)).0 same ∙ ap word_of (same_Some x v that)
    by_word false differs that later = later that

abbrev pub Each : {A : Type 0} → (A → Type 0) → List A → Type 0
Each P [] = Unit {0}
Each P (x ∷ xs) = P x × Each P xs

pub first_value_with_word-each : {A : Type 0} (P : A → Type 0) (word_of : A → Bytes) (values : List A) (word : Bytes) (v : A) → Each P values → first_value_with_word word_of values word ≡ Some v → P v
first_value_with_word-each P word_of [] word v each e = cc
first_value_with_word-each {A = A} P word_of (x ∷ values) word v each e = by_word (bytes_eq word (word_of x)) e (first_value_with_word-each P word_of values word v each.1)
  where
    by_word : (b : Bool) → cond {A = Option A} b (Some x) (first_value_with_word word_of values word) ≡ Some v → (first_value_with_word word_of values word ≡ Some v → P v) → P v
    by_word true that later = subst P (same_Some x v that) each.0
    by_word false that later = later that

abbrev pub words_lack : {A : Type 0} → ℕ → (A → Bytes) → List A → Bool
words_lack c word_of values = list_all (λ v. not (list_any (λ b. b == c) (word_of v))) values

each_passes : {A : Type 0} (test : A → Bool) (values : List A) → list_all test values ≡ true → Each (λ v. test v ≡ true) values
each_passes test [] all = tt
each_passes test (x ∷ values) all = let parts = and_parts (test x) (list_all test values) all in (parts.0, each_passes test values parts.1)

pub word_lacks : {A : Type 0} (c : ℕ) (word_of : A → Bytes) (values : List A) (v : A) → first_value_with_word word_of values (word_of v) ≡ Some v → words_lack c word_of values ≡ true → LacksByte c (word_of v)
word_lacks {A = A} c word_of values v e all =
    let test : A → Bool = λ w. not (list_any (λ b. b == c) (word_of w)) in
    not-true _ (first_value_with_word-each (λ w. test w ≡ true) word_of values (word_of v) v (each_passes test values all) e)
