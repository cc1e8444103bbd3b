use Rattle.std.proofs.Common.{◌≡◌, ◌++◌, ◌∷◌, [], ◌⊎◌, ◌||◌, ℕ, inl, inr, Bool, true, false, not, List, Option, Some, None, refl, sym, ap, ◌∙◌, append_assoc, option_map}
use Rattle.std.proofs.lemmas.Bool.{cases_Bool, or_cases, or_parts, true≢false}
use Rattle.std.proofs.lemmas.List.{append-nil}
use Rattle.std.proofs.lemmas.List.Folds.{list_any-append}
use Rattle.ilk_base.specs.Option.{◌>>=◌}
use Rattle.ilk_cnf.specs.Literal.{Literal, negated_lit, same_lit, has_lit}
use Rattle.ilk_cnf.specs.Formula.{is_tautology}
use Rattle.ilk_cnf.proofs.Gates.{negated_lit-negated_lit}
use Rattle.ilk_cnf.proofs.SameLiterals.{same-lit, lit-is}
use Rattle.ilk_lines.specs.Lines.{Bytes}
use Rattle.ilk_rup.specs.RefutationText.{with_word_in_first, is_item_end_word, split_words_into_items, literal_of, literals_of}
use Rattle.ilk_rup.specs.Items.{more}

-- The first item, after some words and literals were read.
pub record Before (n : ℕ) (words now : List Bytes) (ls : List Literal) : Type 0 where
  pub front : List Bytes
  pub whole : words ≡ front ++ now
  pub lits : (w : Bytes) (ws : List Bytes) → literals_of n (front ++ w ∷ ws) ≡ option_map (λ ms. ls ++ ms) (literals_of n (w ∷ ws))
  pub items : (w : Bytes) (ws item : List Bytes) (rest : List (List Bytes)) → split_words_into_items (w ∷ ws) ≡ item ∷ rest → split_words_into_items (front ++ w ∷ ws) ≡ (front ++ item) ∷ rest

pub before-start : (n : ℕ) (words : List Bytes) → Before n words words []
before-start n words = record {
  front = [];
  whole = refl;
  lits = λ w ws. same (literals_of n (w ∷ ws));
  items = λ w ws item rest e. e;
}
  where
    same : (o : Option (List Literal)) → o ≡ option_map (λ ms. [] ++ ms) o
    same None = refl
    same (Some ms) = refl

first-lits : (n : ℕ) (word w : Bytes) (ws : List Bytes) (l : Literal) (ls : List Literal) → literal_of n word ≡ Some l → option_map (λ ms. ls ++ ms) (literals_of n (word ∷ (w ∷ ws))) ≡ option_map (λ ms. (ls ++ l ∷ []) ++ ms) (literals_of n (w ∷ ws))
first-lits n word w ws l ls e = ap (λ (o : Option Literal). option_map (λ ms. ls ++ ms) (o >>= λ x. literals_of n (w ∷ ws) >>= λ xs. Some (x ∷ xs))) e ∙ go (literals_of n (w ∷ ws))
  where
    go : (o : Option (List Literal)) → option_map (λ ms. ls ++ ms) (o >>= λ xs. Some (l ∷ xs)) ≡ option_map (λ ms. (ls ++ l ∷ []) ++ ms) o
    go None = refl
    go (Some ms) = ap (λ (xs : List Literal). Some xs) (sym (append_assoc ls (l ∷ []) ms))

pub before-next : (n : ℕ) (words rest : List Bytes) (word : Bytes) (ls : List Literal) (l : Literal) → Before n words (word ∷ rest) ls → is_item_end_word word ≡ false → literal_of n word ≡ Some l → Before n words rest (ls ++ l ∷ [])
before-next n words rest word ls l b e k = record {
  front = b.front ++ word ∷ [];
  whole = b.whole ∙ sym (append_assoc b.front (word ∷ []) rest);
  lits = λ w ws. ap (literals_of n) (append_assoc b.front (word ∷ []) (w ∷ ws)) ∙ b.lits word (w ∷ ws) ∙ first-lits n word w ws l ls k;
  items = λ w ws item more h. (let inner : split_words_into_items (word ∷ (w ∷ ws)) ≡ (word ∷ item) ∷ more = rw e (ap (with_word_in_first word) h) in
      ap split_words_into_items (append_assoc b.front (word ∷ []) (w ∷ ws)) ∙ b.items word (w ∷ ws) (word ∷ item) more inner ∙ ap (λ (xs : List Bytes). xs ∷ more) (sym (append_assoc b.front (word ∷ []) item)));
}

pub read-end : (n : ℕ) (words rest : List Bytes) (word : Bytes) (ls : List Literal) → Before n words (word ∷ rest) ls → is_item_end_word word ≡ true → (item : List Bytes) × (split_words_into_items words ≡ item ∷ split_words_into_items rest)
    × (literals_of n item ≡ Some ls)
read-end n words rest word ls b e =
    let inner : split_words_into_items (word ∷ rest) ≡ (word ∷ []) ∷ split_words_into_items rest = rw e refl in
    let last : literals_of n (word ∷ []) ≡ Some [] = rw e refl in (
      b.front ++ word ∷ [],
      ap split_words_into_items b.whole ∙ b.items word rest (word ∷ []) (split_words_into_items rest) inner,
      b.lits word [] ∙ ap (option_map (λ ms. ls ++ ms)) last ∙ ap (λ (xs : List Literal). Some xs) (append-nil ls),
    )

pub first-item : (word : Bytes) (rest : List Bytes) → is_item_end_word word ≡ false → (tail : List Bytes) × (items : List (List Bytes)) × (split_words_into_items (word ∷ rest) ≡ (word ∷ tail) ∷ items)
first-item word rest e = go (split_words_into_items rest) refl
  where
    go : (xs : List (List Bytes)) → split_words_into_items rest ≡ xs → (tail : List Bytes) × (items : List (List Bytes)) × (split_words_into_items (word ∷ rest) ≡ (word ∷ tail) ∷ items)
    go [] h = ([], [], rw e (ap (with_word_in_first word) h))
    go (item ∷ items) h = (item, items, rw e (ap (with_word_in_first word) h))

pub read-bad : (n : ℕ) (words rest : List Bytes) (word : Bytes) (ls : List Literal) →
    Before n words (word ∷ rest) ls → is_item_end_word word ≡ false → literal_of n word ≡ None →
    (item : List Bytes) × (items : List (List Bytes)) × (split_words_into_items words ≡ item ∷ items) ×
    (literals_of n item ≡ None)
read-bad n words rest word ls b e k =
    let f = first-item word rest e in (
      b.front ++ word ∷ f.0,
      f.1,
      ap split_words_into_items b.whole ∙ b.items word rest (word ∷ f.0) f.1 f.2,
      b.lits word f.0 ∙ ap (option_map (λ ms. ls ++ ms)) (bad f.0),
    )
  where
    bad : (tail : List Bytes) → literals_of n (word ∷ tail) ≡ None
    bad [] = rw e refl
    bad (w ∷ ws) = ap (λ (o : Option Literal). o >>= λ x. literals_of n (w ∷ ws) >>= λ xs. Some (x ∷ xs)) k

pub read-cut : (n : ℕ) (words : List Bytes) (word : Bytes) (ls : List Literal) → Before n words (word ∷ []) ls → is_item_end_word word ≡ false → (item : List Bytes) × (items : List (List Bytes)) × (split_words_into_items words ≡ item ∷ items)
    × (literals_of n item ≡ None)
read-cut n words word ls b e =
    let inner : split_words_into_items (word ∷ []) ≡ (word ∷ []) ∷ [] = rw e refl in
    let last : literals_of n (word ∷ []) ≡ None = rw e refl in (
      b.front ++ word ∷ [],
      [],
      ap split_words_into_items b.whole ∙ b.items word [] (word ∷ []) [] inner,
      b.lits word [] ∙ ap (option_map (λ ms. ls ++ ms)) last,
    )

pub taut-push : (ls : List Literal) (l : Literal) → is_tautology (ls ++ l ∷ []) ≡ (is_tautology ls || has_lit (negated_lit l) ls)
taut-push [] l = refl
taut-push (m ∷ ls) l =
    ap (λ b. b || is_tautology (ls ++ l ∷ [])) (list_any-append (same_lit (negated_lit m)) ls (l ∷ []))
    ∙ ap (λ b. (has_lit (negated_lit m) ls || has_lit (negated_lit m) (l ∷ [])) || b) (taut-push ls l)
    ∙ mix (has_lit (negated_lit m) ls) (same_lit (negated_lit m) l) (is_tautology ls) (has_lit (negated_lit l) ls)
    ∙ ap (λ b. (has_lit (negated_lit m) ls || is_tautology ls) || (b || has_lit (negated_lit l) ls)) (turn m l)
  where
    mix : (a b c d : Bool) → ((a || (b || false)) || (c || d)) ≡ ((a || c) || (b || d))
    mix true b c d = refl
    mix false true true d = refl
    mix false true false d = refl
    mix false false true d = refl
    mix false false false d = refl

    turn : (m l : Literal) → same_lit (negated_lit m) l ≡ same_lit (negated_lit l) m
    turn m l = elim (cases_Bool (same_lit (negated_lit m) l)) [
      | inl t ↦ t ∙ sym (ap (same_lit (negated_lit l)) (sym (negated_lit-negated_lit m) ∙ ap negated_lit (lit-is (negated_lit m) l t)) ∙ same-lit (negated_lit l))
      | inr t ↦ elim (cases_Bool (same_lit (negated_lit l) m)) [
        | inl u ↦ absurd (true≢false (sym (ap (same_lit (negated_lit m)) (sym (negated_lit-negated_lit l) ∙ ap negated_lit (lit-is (negated_lit l) m u)) ∙ same-lit (negated_lit m)) ∙ t))
        | inr u ↦ t ∙ sym u
      ]
    ]

both-split : (xs : List Literal) (l x : Literal) →
    ((has_lit l xs ≡ true) → (has_lit (negated_lit l) xs ≡ true) → ⊥) → has_lit (negated_lit x) xs ≡ false →
    (same_lit l x ≡ true) ⊎ (has_lit l xs ≡ true) →
    (same_lit (negated_lit l) x ≡ true) ⊎ (has_lit (negated_lit l) xs ≡ true) → ⊥
both-split xs l x rest t (inl a) (inl b) = never l.positive (ap (λ (z : Literal). z.positive) (lit-is (negated_lit l) x b ∙ sym (lit-is l x a)))
  where
    never : (p : Bool) → not p ≡ p → ⊥
    never true e = cc
    never false e = cc
both-split xs l x rest t (inl a) (inr b) = true≢false (sym b ∙ ap (λ (z : Literal). has_lit (negated_lit z) xs) (lit-is l x a) ∙ t)
both-split xs l x rest t (inr a) (inl b) = true≢false (sym a ∙ ap (λ (z : Literal). has_lit z xs) (sym (negated_lit-negated_lit l) ∙ ap negated_lit (lit-is (negated_lit l) x b)) ∙ t)
both-split xs l x rest t (inr a) (inr b) = rest a b

never-both : (xs : List Literal) (l : Literal) → is_tautology xs ≡ false → has_lit l xs ≡ true → has_lit (negated_lit l) xs ≡ true → ⊥
never-both [] l t a b = true≢false (sym a)
never-both (x ∷ xs) l t a b =
    let p = or_parts (has_lit (negated_lit x) xs) (is_tautology xs) t in
    both-split xs l x (λ c d. never-both xs l p.1 c d) p.0 (or_cases (same_lit l x) (has_lit l xs) a) (or_cases (same_lit (negated_lit l) x) (has_lit (negated_lit l) xs) b)

pub not-both-there : (ls : List Literal) (l : Literal) → is_tautology ls ≡ false → has_lit l ls ≡ true → has_lit (negated_lit l) ls ≡ false
not-both-there ls l t own = elim (cases_Bool (has_lit (negated_lit l) ls)) [ inl x ↦ absurd (never-both ls l t own x) | inr x ↦ x ]
