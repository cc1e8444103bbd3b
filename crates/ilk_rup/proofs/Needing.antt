use Rattle.std.proofs.Common.{◌≡◌, ◌+◌, ◌⊎◌, ℕ, inl, inr, true, false, List, [], ◌∷◌, ◌++◌, Some, length, take, sym, ap, ◌∙◌, subst, add-one}
use Rattle.std.specs.Prelude.{slice_get}
use Rattle.std.proofs.lemmas.Bool.{or_cases, or_left, or_right, cases_Bool, true≢false}
use Rattle.std.proofs.lemmas.List.Folds.{list_any-append}
use Rattle.std.proofs.Math.Seq.{take-length}
use Rattle.ilk_cnf.specs.Literal.{Literal, negated_lit, same_lit, has_lit, has_var}
use Rattle.ilk_cnf.proofs.Gates.{negated_lit-negated_lit}
use Rattle.ilk_cnf.proofs.SameLiterals.{same-lit, lit-is, has-var}
use Rattle.ilk_learn.proofs.Latest.{take-one-more}
use Rattle.ilk_learn.proofs.Members.{var-of}
use Rattle.ilk_rup.specs.Needs.{AreNeededLitsAfterClauseExamined, AreNeededLitsAfterLitExamined, stays, grows}

pub one-more : (P : List Literal → Type 0) (ls : List Literal) (i : ℕ) (l : Literal) → slice_get ls i ≡ Some l → P (take i ls ++ l ∷ []) → P (take (i + 1) ls)
one-more P ls i l at h = subst P (sym (ap (λ (n : ℕ). take n ls) (add-one i) ∙ take-one-more ls i l at)) h

pub all-taken : (P : List Literal → Type 0) (ls : List Literal) (i : ℕ) → i ≡ length ls → P (take i ls) → P ls
all-taken P ls i e h = subst P (ap (λ (n : ℕ). take n ls) e ∙ take-length ls) h

pub pushed-lit : (ls : List Literal) (l x : Literal) → has_lit x (ls ++ l ∷ []) ≡ true → (has_lit x ls ≡ true) ⊎ (x ≡ l)
pushed-lit ls l x h = elim (or_cases (has_lit x ls) (has_lit x (l ∷ [])) (sym (list_any-append (same_lit x) ls (l ∷ [])) ∙ h)) [
  | inl t ↦ inl t
  | inr t ↦ inr (elim (or_cases (same_lit x l) false t) [ inl e ↦ lit-is x l e | inr e ↦ absurd (true≢false (sym e)) ])
]

pub push-old : (ls : List Literal) (l x : Literal) → has_lit x ls ≡ true → has_lit x (ls ++ l ∷ []) ≡ true
push-old ls l x h = list_any-append (same_lit x) ls (l ∷ []) ∙ or_left (has_lit x ls) (has_lit x (l ∷ [])) h

pub push-new : (ls : List Literal) (l : Literal) → has_lit l (ls ++ l ∷ []) ≡ true
push-new ls l = list_any-append (same_lit l) ls (l ∷ []) ∙ or_right (has_lit l ls) (has_lit l (l ∷ [])) (or_left (same_lit l l) false (same-lit l))

push-var : (ls : List Literal) (l : Literal) (v : ℕ) → has_var v ls ≡ true → has_var v (ls ++ l ∷ []) ≡ true
push-var ls l v h =
    let x = var-of ls v h in
    ap (λ (w : ℕ). has_var w (ls ++ l ∷ [])) (sym x.1) ∙ has-var x.0 (ls ++ l ∷ []) (push-old ls l x.0 x.2)

pub needed-next : (set c old mid new : List Literal) (l : Literal) → AreNeededLitsAfterClauseExamined set c old mid → AreNeededLitsAfterLitExamined set l mid new → AreNeededLitsAfterClauseExamined set (c ++ l ∷ []) old new
needed-next set c old mid new l k (stays e o) =
    let P : List Literal → Type 0 = λ xs. AreNeededLitsAfterClauseExamined set (c ++ l ∷ []) old xs in
    subst P (sym e) (record {
      kept = k.kept;
      covered = λ m h. elim (pushed-lit c l m h) [
        | inl q ↦ k.covered m q
        | inr is ↦ elim o [
          | inl t ↦ inl (ap (λ (x : Literal). has_lit x set) is ∙ t)
          | inr t ↦ inr (ap (λ (x : Literal). has_var x.var mid) is ∙ t)
        ]
      ];
      made = λ x h. elim (k.made x h) [ inl t ↦ inl t | inr t ↦ inr (push-old c l (negated_lit x) t.0, t.1, t.2) ];
    })
needed-next set c old mid new l k (grows e a b) =
    let P : List Literal → Type 0 = λ xs. AreNeededLitsAfterClauseExamined set (c ++ l ∷ []) old xs in
    let o = negated_lit l in
    subst P (sym e) (record {
      kept = λ x h. push-old mid o x (k.kept x h);
      covered = λ m h. elim (pushed-lit c l m h) [
        | inl q ↦ elim (k.covered m q) [ inl t ↦ inl t | inr t ↦ inr (push-var mid o m.var t) ]
        | inr is ↦ inr (ap (λ (x : Literal). has_var x.var (mid ++ o ∷ [])) is ∙ has-var o (mid ++ o ∷ []) (push-new mid o))
      ];
      made = λ x h. elim (pushed-lit mid o x h) [
        | inl t ↦ elim (k.made x t) [ inl q ↦ inl q | inr q ↦ inr (push-old c l (negated_lit x) q.0, q.1, q.2) ]
        | inr t ↦ (let q : negated_lit x ≡ l = ap negated_lit t ∙ negated_lit-negated_lit l in
            inr (
              ap (λ (y : Literal). has_lit y (c ++ l ∷ [])) q ∙ push-new c l,
              ap (λ (y : Literal). has_lit y set) q ∙ a,
              ap (λ (y : Literal). has_var y.var old) t ∙ unset,
            ))
      ];
    })
  where
    unset : has_var l.var old ≡ false
    unset = elim (cases_Bool (has_var l.var old)) [
      | inl t ↦ absurd (let x = var-of old l.var t in true≢false (sym (ap (λ (w : ℕ). has_var w mid) (sym x.1) ∙ has-var x.0 mid (k.kept x.0 x.2)) ∙ b))
      | inr t ↦ t
    ]
