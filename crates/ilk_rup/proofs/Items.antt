use Rattle.std.proofs.Common.{◌≡◌, ◌++◌, ◌∷◌, [], ◌||◌, ◌&&◌, eqb, ℕ, inl, inr, Bool, true, false, not, List, Option, Some, None, refl, sym, ap, ◌∙◌, subst, arith, option_map}
use Rattle.std.specs.Prelude.{bytes_eq, codes, nat_le, nat_lt}
use Rattle.std.specs.Str.Parse.{digits_value}
use Rattle.std.proofs.lemmas.Slice.Eq.{bytes_eq-Decides}
use Rattle.ilk_base.proofs.Options.{bind_some, mapped-Some}
use Rattle.ilk_lines.specs.Decimal.{decimal_up_to, is_decimal}
use Rattle.ilk_rup.specs.Needs.{IsClauseOfExactlyLiterals}
use Rattle.std.proofs.lemmas.Bool.{and_from, and_parts, cases_Bool, not_from_false, or_cases, or_left, or_parts, or_right, true≢false}
use Rattle.std.proofs.lemmas.Option.{same_Some}
use Rattle.ilk_base.specs.Option.{◌>>=◌, then_some}
use Rattle.ilk_cnf.specs.Literal.{Literal, negated_lit, same_lit, has_lit, has_var, has_distinct_vars}
use Rattle.ilk_cnf.specs.Formula.{clause_unless_tautology, is_clause_over, deduped_lits, is_tautology, is_lit_over}
use Rattle.ilk_cnf.proofs.SameLiterals.{lit-is}
use Rattle.ilk_lines.specs.Lines.{Bytes}
use Rattle.ilk_learn.proofs.Members.{each-within, var-of}
use Rattle.ilk_rup.specs.RefutationText.{clause_added_by_item, with_word_in_first, is_item_end_word, split_words_into_items, literal_of, literals_of, var_from_decimal_word}
use Rattle.ilk_rup.specs.Items.{IsSetUnlessTautology, IsItemRead, IsAddedUnlessVarPresent, AreItemLiteralsRead, item_kind_of_deletion, item_kind_of_addition, there, clash, more}
use Rattle.ilk_rup.proofs.Signs.{var-either}
use Rattle.ilk_rup.proofs.Needing.{pushed-lit, push-old, push-new}
use Rattle.ilk_rup.proofs.FirstItem.{first-item, not-both-there, taut-push}

pub other-sign : (ls : List Literal) (l : Literal) → has_var l.var ls ≡ true → has_lit l ls ≡ false → has_lit (negated_lit l) ls ≡ true
other-sign ls l v n =
    let x = var-of ls l.var v in
    elim (var-either x.0 l ls x.1 x.2) [ inl t ↦ absurd (true≢false (sym t ∙ n)) | inr t ↦ t ]

pub are-none : IsSetUnlessTautology [] [] false
are-none = record { clash = refl; fewer = λ e m h. h; members = λ e m h. h }

pub are-more : (ls old new : List Literal) (l : Literal) (was one : Bool) → IsSetUnlessTautology ls old was → IsAddedUnlessVarPresent l old new one → IsSetUnlessTautology (ls ++ l ∷ []) new (one || was)
are-more ls old new l was one k p = by was k p
  where
    yes : (b : Bool) → is_tautology (ls ++ l ∷ []) ≡ true → b ≡ true → IsSetUnlessTautology (ls ++ l ∷ []) new b
    yes b t e = record { clash = t ∙ sym e; fewer = λ f. absurd (true≢false (sym e ∙ f)); members = λ f. absurd (true≢false (sym e ∙ f)) }

    or-true : (b : Bool) → (b || true) ≡ true
    or-true true = refl
    or-true false = refl

    by : (was : Bool) → IsSetUnlessTautology ls old was → IsAddedUnlessVarPresent l old new one → IsSetUnlessTautology (ls ++ l ∷ []) new (one || was)
    by true k p = yes (one || true) (taut-push ls l ∙ ap (λ b. b || has_lit (negated_lit l) ls) k.clash) (or-true one)
    by false k (there e h f) = (let P : Bool → Type 0 = λ b. IsSetUnlessTautology (ls ++ l ∷ []) new (b || false) in
        let Q : List Literal → Type 0 = λ s. IsSetUnlessTautology (ls ++ l ∷ []) s false in
        let own = k.fewer refl l h in
        subst P (sym f) (subst Q (sym e) (record {
          clash = taut-push ls l ∙ ap (λ b. b || has_lit (negated_lit l) ls) k.clash ∙ not-both-there ls l k.clash own;
          fewer = λ _ m x. push-old ls l m (k.fewer refl m x);
          members = λ _ m x. elim (pushed-lit ls l m x) [ inl y ↦ k.members refl m y | inr y ↦ ap (λ (z : Literal). has_lit z old) y ∙ h ];
        })))
    by false k (clash e h f) = (let P : Bool → Type 0 = λ b. IsSetUnlessTautology (ls ++ l ∷ []) new (b || false) in
        subst P (sym f) (yes true (taut-push ls l ∙ ap (λ b. is_tautology ls || b) (k.fewer refl (negated_lit l) h) ∙ or-true (is_tautology ls)) refl))
    by false k (more e h f) = (let P : Bool → Type 0 = λ b. IsSetUnlessTautology (ls ++ l ∷ []) new (b || false) in
        let Q : List Literal → Type 0 = λ s. IsSetUnlessTautology (ls ++ l ∷ []) s false in
        subst P (sym f) (subst Q (sym e) (record {
          clash = taut-push ls l ∙ ap (λ b. b || has_lit (negated_lit l) ls) k.clash ∙ elim (cases_Bool (has_lit (negated_lit l) ls)) [
            | inl t ↦ absurd (true≢false (sym (k.members refl (negated_lit l) t) ∙ h))
            | inr t ↦ t
          ];
          fewer = λ _ m x. elim (pushed-lit old l m x) [ inl y ↦ push-old ls l m (k.fewer refl m y) | inr y ↦ ap (λ (z : Literal). has_lit z (ls ++ l ∷ [])) y ∙ push-new ls l ];
          members = λ _ m x. elim (pushed-lit ls l m x) [ inl y ↦ push-old old l m (k.members refl m y) | inr y ↦ ap (λ (z : Literal). has_lit z (old ++ l ∷ [])) y ∙ push-new old l ];
        })))

only-some : {X : Type 0} (b : Bool) (x y : X) → then_some b x ≡ Some y → (b ≡ true) × (x ≡ y)
only-some true x y e = (refl, same_Some x y e)
only-some false x y e = absurd (cc)

var-in : (n v : ℕ) (word : Bytes) → var_from_decimal_word n word ≡ Some v → (nat_lt 0 v ≡ true) × (nat_le v n ≡ true)
var-in n v word e =
    let b = bind_some (decimal_up_to n word) (λ (x : ℕ). then_some (nat_lt 0 x) x) v e in
    let low = only-some (nat_lt 0 b.0) b.0 v b.2 in
    let d = only-some (is_decimal word && nat_le (digits_value 10 word) n) (digits_value 10 word) b.0 b.1 in
    let high = and_parts (is_decimal word) (nat_le (digits_value 10 word) n) d.0 in
    (ap (nat_lt 0) (sym low.1) ∙ low.0, ap (λ (x : ℕ). nat_le x n) (sym (d.1 ∙ low.1)) ∙ high.1)

pub literal-in : (n : ℕ) (word : Bytes) (l : Literal) → literal_of n word ≡ Some l → is_lit_over n l ≡ true
literal-in n [] l e = absurd (cc)
literal-in n (b ∷ word) l e = elim (cases_Bool (eqb b 45)) [
  | inl t ↦ (let m = mapped-Some (λ (v : ℕ). let x : Literal = record { var = v; positive = false } in x) (var_from_decimal_word n word) l (rw t at e) in made m.0 false m.2 (var-in n m.0 word m.1))
  | inr t ↦ (let m = mapped-Some (λ (v : ℕ). let x : Literal = record { var = v; positive = true } in x) (var_from_decimal_word n (b ∷ word)) l (rw t at e) in made m.0 true m.2 (var-in n m.0 (b ∷ word) m.1))
]
  where
    made : (v : ℕ) (p : Bool) → ◌≡◌ {A = Literal} (record { var = v; positive = p }) l → (nat_lt 0 v ≡ true) × (nat_le v n ≡ true) → is_lit_over n l ≡ true
    made v p e h = ap (is_lit_over n) (sym e) ∙ and_from (nat_lt 0 v) (nat_le v n) h.0 h.1

literals-in : (n : ℕ) (item : List Bytes) (ls : List Literal) → literals_of n item ≡ Some ls → is_clause_over n ls ≡ true
literals-in n [] ls e = absurd (cc)
literals-in n (w ∷ []) ls e = (let o = only-some (is_item_end_word w) [] ls e in ap (is_clause_over n) (sym o.1))
literals-in n (w ∷ (v ∷ ws)) ls e =
    let b = bind_some (literal_of n w) (λ (l : Literal). literals_of n (v ∷ ws) >>= λ xs. Some (l ∷ xs)) ls e in
    let c = bind_some (literals_of n (v ∷ ws)) (λ (xs : List Literal). Some (b.0 ∷ xs)) ls b.2 in
    ap (is_clause_over n) (sym (same_Some (b.0 ∷ c.0) ls c.2)) ∙ and_from (is_lit_over n b.0) (is_clause_over n c.0) (literal-in n w b.0 b.1) (literals-in n (v ∷ ws) c.0 c.1)

distinct-fewer : (ls : List Literal) (m : Literal) → has_lit m (deduped_lits ls) ≡ true → has_lit m ls ≡ true
distinct-fewer [] m h = h
distinct-fewer (l ∷ ls) m h = elim (cases_Bool (has_lit l ls)) [
  | inl t ↦ or_right (same_lit m l) (has_lit m ls) (distinct-fewer ls m (rw t at h))
  | inr t ↦ (let k : has_lit m (l ∷ deduped_lits ls) ≡ true = rw t at h in
      elim (or_cases (same_lit m l) (has_lit m (deduped_lits ls)) k) [
        | inl y ↦ or_left (same_lit m l) (has_lit m ls) y
        | inr y ↦ or_right (same_lit m l) (has_lit m ls) (distinct-fewer ls m y)
      ])
]

distinct-more : (ls : List Literal) (m : Literal) → has_lit m ls ≡ true → has_lit m (deduped_lits ls) ≡ true
distinct-more [] m h = h
distinct-more (l ∷ ls) m h = elim (cases_Bool (has_lit l ls)) [
  | inl t ↦ rw t (elim (or_cases (same_lit m l) (has_lit m ls) h) [
    | inl y ↦ distinct-more ls m (ap (λ (z : Literal). has_lit z ls) (lit-is m l y) ∙ t)
    | inr y ↦ distinct-more ls m y
  ])
  | inr t ↦ rw t (elim (or_cases (same_lit m l) (has_lit m ls) h) [
    | inl y ↦ or_left (same_lit m l) (has_lit m (deduped_lits ls)) y
    | inr y ↦ or_right (same_lit m l) (has_lit m (deduped_lits ls)) (distinct-more ls m y)
  ])
]

distinct-differ : (ls : List Literal) → is_tautology ls ≡ false → has_distinct_vars (deduped_lits ls) ≡ true
distinct-differ [] t = refl
distinct-differ (l ∷ ls) t =
    let p = or_parts (has_lit (negated_lit l) ls) (is_tautology ls) t in
    elim (cases_Bool (has_lit l ls)) [
      | inl y ↦ rw y (distinct-differ ls p.1)
      | inr y ↦ rw y (and_from (not (has_var l.var (deduped_lits ls))) (has_distinct_vars (deduped_lits ls)) (not_from_false (has_var l.var (deduped_lits ls)) (elim (cases_Bool (has_var l.var (deduped_lits ls))) [
        | inl z ↦ absurd (let x = var-of (deduped_lits ls) l.var z in
            elim (var-either x.0 l ls x.1 (distinct-fewer ls x.0 x.2)) [
              | inl w ↦ true≢false (sym w ∙ y)
              | inr w ↦ true≢false (sym w ∙ p.0)
            ])
        | inr z ↦ z
      ])) (distinct-differ ls p.1))
    ]

pub clause-read : (n : ℕ) (item : List Bytes) (ls set : List Literal) → literals_of n item ≡ Some ls → IsSetUnlessTautology ls set false → IsClauseOfExactlyLiterals n set (deduped_lits ls)
clause-read n item ls set e k = record {
  within = each-within n (deduped_lits ls) ls (λ m h. distinct-fewer ls m h) (literals-in n item ls e);
  differ = distinct-differ ls k.clash;
  fewer = λ m h. k.members refl m (distinct-fewer ls m h);
  more = λ m h. distinct-more ls m (k.fewer refl m h);
}

not-end : (word : Bytes) → bytes_eq word (codes "d") ≡ true → is_item_end_word word ≡ false
not-end word d = ap is_item_end_word ((bytes_eq-Decides word (codes "d")).0 d)

begins : {P : Type 0} (word : Bytes) (rest item : List Bytes) (items : List (List Bytes)) → split_words_into_items (word ∷ rest) ≡ item ∷ items → ((tail : List Bytes) → item ≡ word ∷ tail → P) → P
begins {P} word rest item items e f = elim (cases_Bool (is_item_end_word word)) [
  | inl t ↦ (let z : (word ∷ []) ∷ split_words_into_items rest ≡ item ∷ items = rw t at e in f [] (sym (cc)))
  | inr t ↦ (let x = first-item word rest t in let z = sym x.2 ∙ e in f x.0 (sym (cc)))
]

pub plain-none : (n : ℕ) (word : Bytes) (rest : List Bytes) (item : List Bytes) (items : List (List Bytes)) → bytes_eq word (codes "d") ≡ false → split_words_into_items (word ∷ rest) ≡ item ∷ items → literals_of n item ≡ None
    → clause_added_by_item n item ≡ None
plain-none n word rest item items d e k = begins word rest item items e
    (λ tail is. (let P : List Bytes → Type 0 = λ xs. literals_of n xs ≡ None → clause_added_by_item n xs ≡ None in subst P (sym is) (λ h. rw d (ap (option_map clause_unless_tautology) h)) k))

pub plain-some :
    (n : ℕ) (word : Bytes) (rest : List Bytes) (item : List Bytes) (items : List (List Bytes))
    (ls : List Literal) →
    bytes_eq word (codes "d") ≡ false → split_words_into_items (word ∷ rest) ≡ item ∷ items → literals_of n item ≡ Some ls →
    clause_added_by_item n item ≡ Some (clause_unless_tautology ls)
plain-some n word rest item items ls d e k = begins word rest item items e
    (λ tail is.
    (let P : List Bytes → Type 0 = λ xs. literals_of n xs ≡ Some ls →
    clause_added_by_item n xs ≡ Some (clause_unless_tautology ls) in
    subst P (sym is) (λ h. rw d (ap (option_map clause_unless_tautology) h)) k))

pub kept-items : (word : Bytes) (rest item : List Bytes) (items : List (List Bytes)) → bytes_eq word (codes "d") ≡ true → split_words_into_items rest ≡ item ∷ items → split_words_into_items (word ∷ rest) ≡ (word ∷ item) ∷ items
kept-items word rest item items d e = rw (not-end word d) (ap (with_word_in_first word) e)

pub kept-none : (n : ℕ) (word : Bytes) (item : List Bytes) → bytes_eq word (codes "d") ≡ true → literals_of n item ≡ None → clause_added_by_item n (word ∷ item) ≡ None
kept-none n word item d k = rw d (ap (option_map (λ ls. [])) k)

pub kept-some : (n : ℕ) (word : Bytes) (item : List Bytes) (ls : List Literal) → bytes_eq word (codes "d") ≡ true → literals_of n item ≡ Some ls → clause_added_by_item n (word ∷ item) ≡ Some []
kept-some n word item ls d k = rw d (ap (option_map (λ xs. [])) k)

pub kept-alone : (n : ℕ) (word : Bytes) → bytes_eq word (codes "d") ≡ true → (split_words_into_items (word ∷ []) ≡ (word ∷ []) ∷ []) × (clause_added_by_item n (word ∷ []) ≡ None)
kept-alone n word d = (rw (not-end word d) refl, rw d refl)

pub plain-read : (n : ℕ) (word : Bytes) (rest : List Bytes) (set : List Literal) (left : List Bytes) (r : Option Bool) → bytes_eq word (codes "d") ≡ false → AreItemLiteralsRead n (word ∷ rest) set left r
    → IsItemRead n (word ∷ rest) set left (item_kind_of_addition r)
plain-read n word rest set left None d k = (k.0, k.1, k.2, plain-none n word rest k.0 k.1 d k.2 k.3)
plain-read n word rest set left (Some true) d k = (k.0, k.2, plain-some n word rest k.0 (split_words_into_items left) k.1 d k.2 k.3 ∙ rw k.4.clash refl, k.5)
plain-read n word rest set left (Some false) d k = (k.0, deduped_lits k.1, k.2, plain-some n word rest k.0 (split_words_into_items left) k.1 d k.2 k.3 ∙ rw k.4.clash refl, clause-read n k.0 k.1 set k.3 k.4, k.5)

pub kept-read : (n : ℕ) (word : Bytes) (rest : List Bytes) (set : List Literal) (left : List Bytes) (r : Option Bool) → bytes_eq word (codes "d") ≡ true → AreItemLiteralsRead n rest set left r →
    IsItemRead n (word ∷ rest) set left (item_kind_of_deletion r)
kept-read n word rest set left None d k = (word ∷ k.0, k.1, kept-items word rest k.0 k.1 d k.2, kept-none n word k.0 d k.3)
kept-read n word rest set left (Some b) d k = (word ∷ k.0, kept-items word rest k.0 (split_words_into_items left) d k.2, kept-some n word k.0 k.1 d k.3, omega (arith, k.5))
