use Rattle.std.proofs.Common.{◌≡◌, ◌≢◌, ℕ, ◌+◌, ◌^◌, ◌<◌, ◌≤◌, inl, inr, Bool, true, false, List, [], ◌∷◌, ◌++◌, length, get_or, set, sym, ap, subst, ◌∙◌, arith, Option, Some, None, length-append}
use Rattle.std.specs.List.{slice_get}
use Rattle.std.specs.Bool.{beq}
use Rattle.std.specs.Option.{option_map}
use Rattle.std.proofs.lemmas.Bool.{cases_eq}
use Rattle.std.proofs.lemmas.Option.{slice_get_within}
use Rattle.std.proofs.lemmas.List.{length-map, get_or-set_same, get_or-set_other}
use Rattle.std.proofs.Math.ListN.{length-set}
use Rattle.ilk_cnf.specs.Literal.{Literal}
use Rattle.ilk_cnf.specs.Formula.{is_lit_over}
use Rattle.ilk_cnf.proofs.Literals.{has_distinct_vars-push, is_lit_over-parts}
use Rattle.ilk_trail.specs.declared.entry.Entry.{Entry}
use Rattle.ilk_trail.specs.Trail.{TrailList, entry_of, last_level_or, level_of}
use Rattle.ilk_trail.specs.Laws.{IsTrail, may_follow_level, is_set, lits_of}
use Rattle.ilk_trail.specs.Stored.{StoresTrail}
use Rattle.ilk_base.proofs.Lists.{slice_get-push_cases, at-before}
use Rattle.ilk_trail.proofs.Entries.{lits_of-push, entry_of-unset, entry_of-other, entry_of-new, found, set-at}
use Rattle.ilk_trail.proofs.Literals.{has_distinct_vars-front, is_clause_over-push, is_clause_over-front, count_of_vars}
use Rattle.ilk_trail.proofs.Values.{set_both, length-set_both, set_both-same, set_both-other}
use Rattle.ilk_trail.proofs.Levels.{each_may_follow_level-push, each_may_follow_level-front, level-small}

abbrev truth : Literal → Entry → Bool
truth m e = beq e.lit.positive m.positive

pub trail-add : (n : ℕ) (es : List Entry) (e : Entry) → IsTrail (record { vars = n; entries = es }) →
    is_lit_over n e.lit ≡ true → is_set es e.lit.var ≡ false → may_follow_level (last_level_or 0 es) e ≡ true →
    IsTrail (record { vars = n; entries = es ++ e ∷ [] })
trail-add n es e t h u k = record {
  few = t.few;
  within = rw (lits_of-push es e) (is_clause_over-push n (lits_of es) e.lit t.within h);
  once = rw (lits_of-push es e) (has_distinct_vars-push (lits_of es) e.lit t.once u);
  climbing = each_may_follow_level-push 0 es e t.climbing k;
}

pub trail-take : (n : ℕ) (es : List Entry) (e : Entry) → IsTrail (record { vars = n; entries = es ++ e ∷ [] }) → IsTrail (record { vars = n; entries = es }) × (is_lit_over n e.lit ≡ true) × (is_set es e.lit.var ≡ false)
trail-take n es e t =
    let w = is_clause_over-front n (lits_of es) e.lit (rw (lits_of-push es e) at t.within) in
    let d = has_distinct_vars-front (lits_of es) e.lit (rw (lits_of-push es e) at t.once) in
    (record { few = t.few; within = w.0; once = d.0; climbing = (each_may_follow_level-front 0 es e t.climbing).0 }, w.1, d.1)

pub room-for : (n : ℕ) (es : List Entry) (l : Literal) → IsTrail (record { vars = n; entries = es }) → is_lit_over n l ≡ true → is_set es l.var ≡ false → length es < n + 1
room-for n es l t h u =
    let c = count_of_vars n (lits_of es ++ l ∷ []) (is_clause_over-push n (lits_of es) l t.within h) (has_distinct_vars-push (lits_of es) l t.once u) in
    let m : length (lits_of es ++ l ∷ []) ≡ length es + 1 = simp (length-append, length-map) in
    omega (arith, c, m)

pub stored-add :
    (values : List (Option Bool)) (places : List ℕ) (n : ℕ) (es : List Entry) (e : Entry) (size more : ℕ) →
    StoresTrail values places (record { vars = n; entries = es }) size → size ≤ more → is_lit_over n e.lit ≡ true →
    is_set es e.lit.var ≡ false → may_follow_level (last_level_or 0 es) e ≡ true →
    StoresTrail (set_both values e.lit (λ b. Some b)) (set places e.lit.var (length es))
    (record { vars = n; entries = es ++ e ∷ [] }) more
stored-add values places n es e size more k le h u c = let w : e.lit.var ≤ n = (is_lit_over-parts n e.lit h).1 in record {
  values_long = length-set_both values e.lit (λ b. Some b) ∙ k.values_long;
  places_long = simp length-set k.places_long;
  roomy = omega (arith, k.roomy);
  value = λ m b. elim (cases_eq m.var e.lit.var) [
    | inl p ↦ set_both-same values e.lit m (λ c. Some c) n k.values_long w p ∙ sym (ap (option_map (truth m)) (ap (entry_of (es ++ e ∷ [])) p ∙ entry_of-new es e u))
    | inr p ↦ set_both-other values e.lit m (λ c. Some c) p ∙ k.value m b ∙ sym (ap (option_map (truth m)) (entry_of-other es e m.var p))
  ];
  place = λ i x s. elim (slice_get-push_cases es e x i s) [
    | inl p ↦ (let differs : x.lit.var ≢ e.lit.var = λ q. (let P : ℕ → Type 0 = λ j. is_set es j ≡ true in let y : is_set es e.lit.var ≡ true = subst P q (set-at es i x p) in cc) in
        get_or-set_other places e.lit.var x.lit.var (length es) 0 differs ∙ k.place i x p)
    | inr p ↦ (let P : Entry → Type 0 = λ y. get_or (set places e.lit.var (length es)) y.lit.var 0 ≡ i in
        subst P p.1 (get_or-set_same places e.lit.var (length es) 0 (omega (arith, k.places_long, w)) ∙ sym p.0))
  ];
  is_trail = trail-add n es e k.is_trail h u c;
}

pub stored-take :
    (values : List (Option Bool)) (places : List ℕ) (n : ℕ) (es : List Entry) (e : Entry) (size more : ℕ) →
    StoresTrail values places (record { vars = n; entries = es ++ e ∷ [] }) size → size ≤ more →
    StoresTrail (set_both values e.lit (λ b. None)) places (record { vars = n; entries = es }) more
stored-take values places n es e size more k le =
    let t = trail-take n es e k.is_trail in
    let w : e.lit.var ≤ n = (is_lit_over-parts n e.lit t.1).1 in
    let u : is_set es e.lit.var ≡ false = t.2 in
    record {
      values_long = length-set_both values e.lit (λ b. None) ∙ k.values_long;
      places_long = k.places_long;
      roomy = omega (arith, k.roomy);
      value = λ m b. elim (cases_eq m.var e.lit.var) [
        | inl p ↦ set_both-same values e.lit m (λ c. None) n k.values_long w p ∙ sym (ap (option_map (truth m)) (ap (entry_of es) p ∙ entry_of-unset es e.lit.var u))
        | inr p ↦ set_both-other values e.lit m (λ c. None) p ∙ k.value m b ∙ ap (option_map (truth m)) (entry_of-other es e m.var p)
      ];
      place = λ i x s. k.place i x (at-before es (e ∷ []) i x s);
      is_trail = t.0;
    }

pub stands-at-place : (values : List (Option Bool)) (places : List ℕ) (t : TrailList) (size v : ℕ) →
    StoresTrail values places t size → is_set t.entries v ≡ true →
    (slice_get t.entries (get_or places v 0) ≡ entry_of t.entries v) × (get_or places v 0 < length t.entries)
stands-at-place values places t size v k s =
    let f = found t.entries v s in
    let q : get_or places v 0 ≡ f.place = (let P : ℕ → Type 0 = λ j. get_or places j 0 ≡ f.place in subst P f.named (k.place f.place f.entry f.stands)) in
    (rw q (f.stands ∙ sym f.first), rw q (slice_get_within t.entries f.place f.entry f.stands))

pub level-fits : (t : TrailList) → IsTrail t → level_of t.entries ≤ 2 ^ 62 + 1
level-fits t k =
    let c = count_of_vars t.vars (lits_of t.entries) k.within k.once in
    let e : length (lits_of t.entries) ≡ length t.entries = length-map t.entries (λ (x : Entry). x.lit) in
    omega (arith, level-small 0 t.entries k.climbing, c, e, k.few)

pub within : (values : List (Option Bool)) (places : List ℕ) (t : TrailList) (size : ℕ) (l : Literal) → StoresTrail values places t size → is_lit_over t.vars l ≡ true → l.var < length places
within values places t size l k h = (let w = is_lit_over-parts t.vars l h in omega (arith, k.places_long, w.1))
