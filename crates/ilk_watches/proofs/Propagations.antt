use Rattle.std.proofs.Common.{◌≡◌, ◌≤◌, ℕ, true, inl, inr, List, [], ◌∷◌, ◌++◌, length, take, drop, Some, refl, sym, ap, ◌∙◌, subst, arith}
use Rattle.std.specs.Prelude.{IsSomeAnd}
use Rattle.std.specs.List.{slice_get}
use Rattle.std.proofs.lemmas.List.{take-append-le, take-append-drop}
use Rattle.std.proofs.lemmas.Option.{slice_get_within}
use Rattle.std.proofs.Math.Seq.{take-length, take-append_seam}
use Rattle.ilk_base.proofs.Lists.{slice_get-push_cases}
use Rattle.ilk_base.proofs.Ranges.{below_or_past}
use Rattle.ilk_cnf.specs.Literal.{Literal}
use Rattle.ilk_trail.specs.declared.entry.Entry.{Entry}
use Rattle.ilk_trail.specs.Trail.{with_assignment, level_of}
use Rattle.ilk_trail.specs.Laws.{lits_of}
use Rattle.ilk_trail.proofs.Levels.{last_level_or-push}
use Rattle.ilk_watches.specs.Reasons.{clause_forces_lit}
use Rattle.ilk_watches.specs.Propagated.{ExtendsByPropagation}
use Rattle.ilk_watches.proofs.Entries.{at-old, length-kept}

pub propagated-start : (cs : List (List Literal)) (es : List Entry) → ExtendsByPropagation cs es es
propagated-start cs es = record {
  kept = take-length es;
  level = refl;
  levels = λ i e h s. absurd (past es i e h s);
  reasons = λ i e h s. absurd (past es i e h s);
}
  where
    past : (es : List Entry) (i : ℕ) (e : Entry) → length es ≤ i → slice_get es i ≡ Some e → ⊥
    past es i e h s = (let w = slice_get_within es i e s in absurd (omega (arith, w, h)))

pub propagated-push : (cs : List (List Literal)) (old new : List Entry) (l : Literal) (c : ℕ) → ExtendsByPropagation cs old new → clause_forces_lit cs (lits_of new) l c ≡ true → ExtendsByPropagation cs old (with_assignment new l c)
propagated-push cs old new l c p r =
    let e : Entry = record { lit = l; level = level_of new; reason = Some c } in
    record {
      kept = take-append-le (length old) new (e ∷ []) (length-kept old new p.kept) ∙ p.kept;
      level = last_level_or-push 0 new e ∙ p.level;
      levels = λ i x h s. elim (slice_get-push_cases new e x i s) [
        | inl q ↦ p.levels i x h q
        | inr q ↦ ap (λ (y : Entry). y.level) (sym q.1) ∙ p.level
      ];
      reasons = λ i x h s. elim (slice_get-push_cases new e x i s) [
        | inl q ↦ (let P : List Entry → Type 0 = λ before. IsSomeAnd x.reason (λ k. clause_forces_lit cs (lits_of before) x.lit k ≡ true) in
            let w = slice_get_within new i x q in
            subst P (sym (take-append-le i new (e ∷ []) (omega (arith, w)))) (p.reasons i x h q))
        | inr q ↦ (let P : List Entry → Type 0 = λ before. IsSomeAnd x.reason (λ k. clause_forces_lit cs (lits_of before) x.lit k ≡ true) in
            let all : take i (new ++ e ∷ []) ≡ new = ap (λ (j : ℕ). take j (new ++ e ∷ [])) q.0 ∙ take-append_seam new (e ∷ []) in
            let Q : Entry → Type 0 = λ y. IsSomeAnd y.reason (λ k. clause_forces_lit cs (lits_of new) y.lit k ≡ true) in
            subst P (sym all) (subst Q q.1 r))
      ];
    }

pub propagated-one : (cs : List (List Literal)) (es : List Entry) (l : Literal) (c : ℕ) → clause_forces_lit cs (lits_of es) l c ≡ true → ExtendsByPropagation cs es (with_assignment es l c)
propagated-one cs es l c r = propagated-push cs es es l c (propagated-start cs es) r

same-front : (es fs : List Entry) (i : ℕ) → take (length es) fs ≡ es → i ≤ length es → take i es ≡ take i fs
same-front es fs i k le =
    let size = ap length k in
    ap (take i) (sym k) ∙ sym (take-append-le i (take (length es) fs) (drop (length es) fs) (omega (arith, size, le))) ∙ ap (take i) (take-append-drop (length es) fs)

pub propagated-join : (cs : List (List Literal)) (old mid new : List Entry) → ExtendsByPropagation cs old mid → ExtendsByPropagation cs mid new → ExtendsByPropagation cs old new
propagated-join cs old mid new p q = record {
  kept = sym (same-front mid new (length old) q.kept (length-kept old mid p.kept)) ∙ p.kept;
  level = q.level ∙ p.level;
  levels = λ i e h s. elim (below_or_past i (length mid)) [
    | inl b ↦ p.levels i e h (at-old mid new i e q.kept b s)
    | inr b ↦ q.levels i e b s ∙ p.level
  ];
  reasons = λ i e h s. elim (below_or_past i (length mid)) [
    | inl b ↦ (let P : List Entry → Type 0 = λ before. IsSomeAnd e.reason (λ k. clause_forces_lit cs (lits_of before) e.lit k ≡ true) in
        subst P (same-front mid new i q.kept (omega (arith, b))) (p.reasons i e h (at-old mid new i e q.kept b s)))
    | inr b ↦ q.reasons i e b s
  ];
}

pub propagated-same : (cs ds : List (List Literal)) (old new : List Entry) → ds ≡ cs → ExtendsByPropagation ds old new → ExtendsByPropagation cs old new
propagated-same cs ds old new e p = (let P : List (List Literal) → Type 0 = λ x. ExtendsByPropagation x old new in subst P e p)
