use Rattle.std.proofs.Common.{◌≡◌, ℕ, zero, suc, inl, inr, ◌⊎◌, true, false, not, eqb, List, [], ◌∷◌, ◌++◌, refl, sym, ap, ◌∙◌, subst, Some, arith, get_or}
use Rattle.std.specs.Prelude.{slice_get}
use Rattle.std.proofs.lemmas.Bool.{and_parts, or_cases, or_left, or_right, cases_Bool, not-true, not_from_false, true≢false, eqb-true, or_from}
use Rattle.std.proofs.lemmas.Bool.Decides.{nat_tests}
use Rattle.ilk_cnf.specs.Literal.{Literal, negated_lit, same_lit, has_lit, has_var, has_distinct_vars}
use Rattle.ilk_cnf.proofs.Gates.{negated_lit-negated_lit}
use Rattle.ilk_cnf.proofs.SameLiterals.{same-lit, lit-is, has-var}
use Rattle.ilk_log.specs.Propagation.{is_falsified, unit_lit}
use Rattle.ilk_log.specs.Derived.{hints_end_in_conflict, negated_clause}
use Rattle.ilk_log.specs.Fresh.{other_lits}
use Rattle.ilk_learn.proofs.Derived.{false-from, false-at, unit-one, has-negated_lit, negated_lit-of}
use Rattle.ilk_learn.proofs.Members.{kept-at, no-var, same-var, var-of}
use Rattle.ilk_rup.specs.Needs.{AreNeededLitsAfterClauseExamined, HintsFalsifyGivenNeededLits, unit_hints_of_needed}
use Rattle.ilk_rup.proofs.Alike.{ends-first}
use Rattle.ilk_rup.proofs.Signs.{var-either}

needed-is : (all new : List Literal) (m : Literal) → has_distinct_vars all ≡ true → ((x : Literal) → has_lit x new ≡ true → has_lit x all ≡ true) → has_lit (negated_lit m) all ≡ true → has_var m.var new ≡ true → has_lit (negated_lit m) new ≡ true
needed-is all new m d w h v =
    let x = var-of new m.var v in
    let e : x.0 ≡ negated_lit m = same-var all x.0 (negated_lit m) d (w x.0 x.2) h x.1 in
    ap (λ (y : Literal). has_lit y new) (sym e) ∙ x.2

pub not-in : (m : Literal) (xs : List Literal) → (has_lit m xs ≡ true → ⊥) → has_lit m xs ≡ false
not-in m xs f = elim (cases_Bool (has_lit m xs)) [ inl t ↦ absurd (f t) | inr t ↦ t ]

pub shows-start : (cs : List (List Literal)) (all set d needed : List Literal) (i : ℕ) →
    slice_get cs i ≡ Some d → has_distinct_vars all ≡ true →
    ((m : Literal) → has_lit m d ≡ true → (has_lit m set ≡ true) ⊎ (has_lit (negated_lit m) all ≡ true)) →
    AreNeededLitsAfterClauseExamined set d [] needed → HintsFalsifyGivenNeededLits cs all all set needed (suc i ∷ [])
shows-start cs all set d needed i at differ f n = record {
  apart = λ x h. elim (n.made x h) [ inl y ↦ absurd (true≢false (sym y)) | inr y ↦ y.1 ];
  within = within;
  ends = λ now a b c. rw at (false-from now d (λ m h. elim (n.covered m h) [
    | inl s ↦ b m s
    | inr v ↦ elim (f m h) [
      | inl s ↦ b m s
      | inr t ↦ c (negated_lit m) (needed-is all needed m differ within t v) t
    ]
  ]));
}
  where
    within : (x : Literal) → has_lit x needed ≡ true → has_lit x all ≡ true
    within x h = elim (n.made x h) [
      | inl y ↦ absurd (true≢false (sym y))
      | inr y ↦ elim (f (negated_lit x) y.0) [
        | inl s ↦ absurd (true≢false (sym s ∙ y.1))
        | inr t ↦ ap (λ (z : Literal). has_lit z all) (sym (negated_lit-negated_lit x)) ∙ t
      ]
    ]

pub record Next (before more : List Literal) (l : Literal) : Type 0 where
  pub kept : (m : Literal) → has_lit m before ≡ true → has_lit m more ≡ true
  pub last : has_lit l more ≡ true
  pub only : (m : Literal) → has_lit m more ≡ true → (has_lit m before ≡ true) ⊎ (m ≡ l)
  pub unset : has_var l.var before ≡ false

pub shows-skip : (cs : List (List Literal)) (all before more set needed : List Literal) (l : Literal) (hints : List ℕ) → Next before more l → has_lit l needed ≡ false → HintsFalsifyGivenNeededLits cs all more set needed hints
    → HintsFalsifyGivenNeededLits cs all before set needed hints
shows-skip cs all before more set needed l hints n u s = record {
  apart = s.apart;
  within = s.within;
  ends = λ now a b c. s.ends now (λ m h. elim (a m h) [ inl t ↦ inl (n.kept m t) | inr t ↦ inr t ]) b (λ x h k. elim (n.only x k) [
    | inl t ↦ c x h t
    | inr e ↦ absurd (true≢false (sym h ∙ ap (λ (z : Literal). has_lit z needed) e ∙ u))
  ]);
}

pub shows-step :
    (cs : List (List Literal)) (all before more set needed next d : List Literal) (l : Literal) (r : ℕ)
    (hints : List ℕ) →
    Next before more l → has_lit l needed ≡ true → slice_get cs r ≡ Some d → has_distinct_vars d ≡ true →
    has_lit l d ≡ true → is_falsified before (other_lits l d) ≡ true → has_var l.var set ≡ false →
    has_distinct_vars all ≡ true → ((m : Literal) → has_lit m before ≡ true → has_lit m all ≡ true) →
    AreNeededLitsAfterClauseExamined set d needed next → HintsFalsifyGivenNeededLits cs all more set needed hints →
    HintsFalsifyGivenNeededLits cs all before set next (suc r ∷ hints)
shows-step cs all before more set needed next d l r hints n u at differ own falsified away once inside k s = record {
  apart = λ x h. elim (k.made x h) [ inl y ↦ s.apart x y | inr y ↦ y.1 ];
  within = within;
  ends = λ now a b c. (let one : unit_lit now d ≡ Some l = unit-one now d l differ own (unset now a l refl) (unset now a (negated_lit l) refl) (λ m h e. denied now b c m h e) in
      ends-first cs now (l ∷ now) (suc r) hints (rw at (rw one refl)) (s.ends (l ∷ now) (λ m h. elim (or_cases (same_lit m l) (has_lit m now) h) [
        | inl e ↦ inl (ap (λ (z : Literal). has_lit z more) (lit-is m l e) ∙ n.last)
        | inr t ↦ elim (a m t) [ inl y ↦ inl (n.kept m y) | inr y ↦ inr y ]
      ]) (λ m h. or_right (same_lit (negated_lit m) l) (has_lit (negated_lit m) now) (b m h)) (λ x h y. elim (n.only x y) [
        | inl t ↦ or_right (same_lit x l) (has_lit x now) (c x (k.kept x h) t)
        | inr e ↦ or_left (same_lit x l) (has_lit x now) (ap (λ (z : Literal). same_lit z l) e ∙ same-lit l)
      ])));
}
  where
    behind : (m : Literal) → has_lit m d ≡ true → same_lit l m ≡ false → has_lit (negated_lit m) before ≡ true
    behind m h e = false-at before (other_lits l d) m falsified (kept-at (λ (x : Literal). not (same_lit l x)) d m h (not_from_false (same_lit l m) e))

    within : (x : Literal) → has_lit x next ≡ true → has_lit x all ≡ true
    within x h = elim (k.made x h) [
      | inl y ↦ s.within x y
      | inr y ↦ (let e : same_lit l (negated_lit x) ≡ false = elim (cases_Bool (same_lit l (negated_lit x))) [
        | inl t ↦ absurd (let q : l.var ≡ x.var = ap (λ (z : Literal). z.var) (lit-is l (negated_lit x) t) in
            true≢false (sym (has-var l needed u) ∙ ap (λ (v : ℕ). has_var v needed) q ∙ y.2))
        | inr t ↦ t
      ] in
          ap (λ (z : Literal). has_lit z all) (sym (negated_lit-negated_lit x)) ∙ inside (negated_lit (negated_lit x)) (behind (negated_lit x) y.0 e))
    ]

    unset : (now : List Literal) → ((m : Literal) → has_lit m now ≡ true → (has_lit m before ≡ true) ⊎ (has_lit (negated_lit m) set ≡ true)) → (m : Literal) → m.var ≡ l.var → has_lit m now ≡ false
    unset now a m e = not-in m now (λ h. elim (a m h) [
      | inl t ↦ no-var before m (ap (λ (v : ℕ). has_var v before) e ∙ n.unset) t
      | inr t ↦ no-var set (negated_lit m) (ap (λ (v : ℕ). has_var v set) e ∙ away) t
    ])

    denied : (now : List Literal) → ((m : Literal) → has_lit m set ≡ true → has_lit (negated_lit m) now ≡ true) →
        ((x : Literal) → has_lit x next ≡ true → has_lit x before ≡ true → has_lit x now ≡ true) →
        (m : Literal) → has_lit m d ≡ true → same_lit l m ≡ false → has_lit (negated_lit m) now ≡ true
    denied now b c m h e = elim (k.covered m h) [
      | inl t ↦ b m t
      | inr v ↦ (let q = behind m h e in c (negated_lit m) (needed-is all next m once within (inside (negated_lit m) q) v) q)
    ]

later : (ls : List Literal) (l x : Literal) → has_lit x ls ≡ true → has_lit x (l ∷ ls) ≡ true
later ls l x h = or_right (same_lit x l) (has_lit x ls) h

var-apart : (ls : List Literal) (l x : Literal) → has_var l.var ls ≡ false → has_lit x ls ≡ true → eqb l.var x.var ≡ false
var-apart ls l x n h = elim (cases_Bool (eqb l.var x.var)) [
  | inl t ↦ absurd (no-var ls x (ap (λ (v : ℕ). has_var v ls) (sym (eqb-true l.var x.var t)) ∙ n) h)
  | inr t ↦ t
]

by-unit : {P : Type 0} (u : ℕ) → (u ≡ 0 → P) → ((k : ℕ) → u ≡ suc k → P) → P
by-unit zero f g = f refl
by-unit (suc k) f g = g k refl

-- The literals after the hints of known literals.
pub record Taken (now ls : List Literal) (units : List ℕ) (next : List Literal) : Type 0 where
  pub kept : (m : Literal) → has_lit m now ≡ true → has_lit m next ≡ true
  pub set : (x : Literal) (k : ℕ) → has_lit x ls ≡ true → get_or units x.var 0 ≡ suc k → has_lit x next ≡ true
  pub only : (m : Literal) → has_lit m next ≡ true → (has_lit m now ≡ true) ⊎ ((has_lit m ls ≡ true) × (k : ℕ) × (get_or units m.var 0 ≡ suc k))

pub take-units : (cs : List (List Literal)) (units hints : List ℕ) (now ls : List Literal) →
    has_distinct_vars ls ≡ true →
    ((x : Literal) (k : ℕ) → has_lit x ls ≡ true → get_or units x.var 0 ≡ suc k →
    (slice_get cs k ≡ Some (x ∷ [])) × (has_var x.var now ≡ false)) →
    ((next : List Literal) → Taken now ls units next → hints_end_in_conflict cs next hints ≡ true) →
    hints_end_in_conflict cs now (unit_hints_of_needed units ls ++ hints) ≡ true
take-units cs units hints now [] d f e = e now (record { kept = λ m h. h; set = λ x k h q. absurd (true≢false (sym h)); only = λ m h. inl h })
take-units cs units hints now (l ∷ ls) d f e =
    let p = and_parts (not (has_var l.var ls)) (has_distinct_vars ls) d in
    let none = not-true (has_var l.var ls) p.0 in
    let P : List ℕ → Type 0 = λ hs. hints_end_in_conflict cs now (hs ++ hints) ≡ true in
    by-unit (get_or units l.var 0) (λ z. (let same : unit_hints_of_needed units ls ≡ unit_hints_of_needed units (l ∷ ls) = rw z refl in
    subst P same (take-units cs units hints now ls p.1 (λ x k h q. f x k (later ls l x h) q) (λ next t. e next (record {
      kept = t.kept;
      set = λ x k h q. elim (or_cases (same_lit x l) (has_lit x ls) h) [
        | inl y ↦ absurd (let w : zero ≡ suc k = sym z ∙ ap (λ (v : Literal). get_or units v.var 0) (sym (lit-is x l y)) ∙ q in cc)
        | inr y ↦ t.set x k y q
      ];
      only = λ m h. elim (t.only m h) [ inl y ↦ inl y | inr y ↦ inr (later ls l m y.0, y.1, y.2) ];
    }))))) (λ u z. (let here = f l u (or_left (same_lit l l) (has_lit l ls) (same-lit l)) z in
    let unset : (m : Literal) → m.var ≡ l.var → has_lit m now ≡ false = λ m q. not-in m now (λ h. no-var now m (ap (λ (v : ℕ). has_var v now) q ∙ here.1) h) in
    let one : unit_lit now (l ∷ []) ≡ Some l = unit-one now (l ∷ []) l refl (or_left (same_lit l l) false (same-lit l)) (unset l refl) (unset (negated_lit l) refl) (λ m h n. absurd (elim (or_cases (same_lit m l) false h) [
      | inl t ↦ true≢false (sym (ap (λ (y : Literal). same_lit l y) (lit-is m l t) ∙ same-lit l) ∙ n)
      | inr t ↦ true≢false (sym t)
    ])) in
    let w : eqb (suc u) 0 ≡ false = grind (arith, nat_tests) in
    let same : suc u ∷ unit_hints_of_needed units ls ≡ unit_hints_of_needed units (l ∷ ls) = rw z (rw w refl) in
    let at = here.0 in
    subst P same (ends-first cs now (l ∷ now) (suc u) (unit_hints_of_needed units ls ++ hints) (rw at (rw one refl)) (take-units cs units hints (l ∷ now) ls p.1 (λ x k h q. (let g = f x k (later ls l x h) q in
    (g.0, or_from (eqb l.var x.var) (has_var x.var now) (var-apart ls l x none h) g.1))) (λ next t. e next (record {
      kept = λ m h. t.kept m (or_right (same_lit m l) (has_lit m now) h);
      set = λ x k h q. elim (or_cases (same_lit x l) (has_lit x ls) h) [
        | inl y ↦ t.kept x (or_left (same_lit x l) (has_lit x now) y)
        | inr y ↦ t.set x k y q
      ];
      only = λ m h. elim (t.only m h) [
        | inl y ↦ elim (or_cases (same_lit m l) (has_lit m now) y) [
          | inl v ↦ inr (or_left (same_lit m l) (has_lit m ls) v, u, ap (λ (x : Literal). get_or units x.var 0) (lit-is m l v) ∙ z)
          | inr v ↦ inl v
        ]
        | inr y ↦ inr (later ls l m y.0, y.1, y.2)
      ];
    }))))))

pub shows-end :
    (cs : List (List Literal)) (all before set needed : List Literal) (units hints : List ℕ)
    (c : List Literal) →
    HintsFalsifyGivenNeededLits cs all before set needed hints → has_distinct_vars needed ≡ true →
    ((x : Literal) (k : ℕ) → has_lit x needed ≡ true → get_or units x.var 0 ≡ suc k →
    (slice_get cs k ≡ Some (x ∷ [])) × (has_lit x set ≡ false) × (has_lit x before ≡ true)) →
    ((x : Literal) → has_lit x needed ≡ true → has_lit x before ≡ true →
    (k : ℕ) × (get_or units x.var 0 ≡ suc k)) →
    ((m : Literal) → has_lit m c ≡ true → has_lit m set ≡ true) →
    ((m : Literal) → has_lit m set ≡ true → has_lit m c ≡ true) →
    hints_end_in_conflict cs (negated_clause c) (unit_hints_of_needed units needed ++ hints) ≡ true
shows-end cs all before set needed units hints c s d f g fewer more =
    take-units cs units hints (negated_clause c) needed d (λ x k h e. (let q = f x k h e in (q.0, free x h q.1))) (λ next t. s.ends next (λ m h. elim (t.only m h) [
      | inl y ↦ (let o = negated_lit-of c m y in inr (ap (λ (z : Literal). has_lit z set) (ap negated_lit o.2 ∙ negated_lit-negated_lit o.0) ∙ fewer o.0 o.1))
      | inr y ↦ inl (f m y.1 y.0 y.2).2
    ]) (λ m h. t.kept (negated_lit m) (has-negated_lit c m (more m h))) (λ x h k. (let u = g x h k in t.set x u.0 h u.1)))
  where
    free : (x : Literal) → has_lit x needed ≡ true → has_lit x set ≡ false → has_var x.var (negated_clause c) ≡ false
    free x h n = elim (cases_Bool (has_var x.var (negated_clause c))) [
      | inl t ↦ absurd (let y = var-of (negated_clause c) x.var t in
          let o = negated_lit-of c y.0 y.2 in
          let v : o.0.var ≡ x.var = ap (λ (z : Literal). z.var) (sym o.2) ∙ y.1 in
          elim (var-either o.0 x set v (fewer o.0 o.1)) [ inl y ↦ true≢false (sym y ∙ n) | inr y ↦ true≢false (sym y ∙ s.apart x h) ])
      | inr t ↦ t
    ]
