use Rattle.std.proofs.Common.{◌≡◌, ◌<◌, ◌+◌, ◌++◌, ◌∷◌, [], ◌∙◌, ℕ, List, true, ap, sym, subst, arith, refl, length, set}
use Rattle.std.specs.List.{slice_get}
use Rattle.std.proofs.lemmas.Bool.{and_from}
use Rattle.ilk_base.proofs.Options.{mapped-Some}
use Rattle.ilk_cnf.specs.Literal.{Literal}
use Rattle.ilk_cnf.specs.Formula.{is_clause_over, is_lit_over}
use Rattle.ilk_cnf.proofs.Literals.{is_lit_over-parts}
use Rattle.ilk_watches.specs.Chained.{IsClauseAdded}
use Rattle.ilk_log.specs.declared.step.Step.{Step}
use Rattle.ilk_watches.specs.Reasons.{is_conflict}
use Rattle.ilk_trail.specs.declared.entry.Entry.{Entry}
use Rattle.ilk_trail.specs.Laws.{lits_of}
use Rattle.ilk_trail.specs.Trail.{TrailList}
use Rattle.ilk_trail.proofs.Entries.{entry-within}
use Rattle.ilk_rup.specs.Alike.{AreEquivalent}
use Rattle.ilk_rup.specs.LitSet.{LitSetList}
use Rattle.ilk_rup.specs.Needs.{HintsDeriveClauseOfLiterals, IsClauseFalseApartFromSet, IsClauseOfExactlyLiterals, AreUnitHintsByVar}
use Rattle.ilk_rup.specs.Standing.{IsBaseInvariant}
use Rattle.ilk_rup.specs.declared.base.DerivationState.{DerivationState}
use Rattle.ilk_rup.specs.declared.explain.Explainer.{Explainer}
use Rattle.ilk_rup.proofs.Alike.{alike-back}
use Rattle.ilk_rup.proofs.Holds.{added-clauses, held-named}
use Rattle.ilk_rup.proofs.Keeping.{conflict-more, entry-alike, name-explains, step-derived}
use Rattle.ilk_rup.proofs.base.DerivationState.name.Goals as goal

pub put-requires-clause-within : goal.put-requires-clause-within
put-requires-clause-within c =
    let k = c.args.self.now in
    let t = k.trail in
    let l = c.requires.loose in
    let x = mapped-Some (λ (e : Entry). e.lit) (slice_get t.entries k.explainer.named) c.at-l.result c.at-l.ensures in
    ap (λ (n : ℕ). is_lit_over n c.at-l.result) (ap (λ (s : LitSetList). s.vars) c.clear.ensures ∙ l.set_vars ∙ sym l.held.trail_vars) ∙ ap (is_lit_over t.vars) (sym x.2) ∙ entry-within t k.explainer.named x.0 c.count-2.ensures.is_trail x.1

pub explain-requires : goal.explain-requires
explain-requires c =
    let k = c.args.self.now in
    let t = k.trail in
    let l = c.requires.loose in
    let h = l.held in
    let x = mapped-Some (λ (e : Entry). e.lit) (slice_get t.entries k.explainer.named) c.at-l.result c.at-l.ensures in
    let r = c.reason_index_of_entry-reason.result in
    let K : ℕ → Type 0 = λ n. AreUnitHintsByVar k.explainer.units.items k.clauses.clauses t.entries n k.explainer.named in
    let P : List Literal → Type 0 = λ ls. IsClauseFalseApartFromSet k.clauses.clauses t.entries ls r k.explainer.named k.explainer.named k.explainer.named in
    let lits : c.put.new.self.lits ≡ x.0.lit ∷ [] = ap (λ (s : LitSetList). s.lits) c.put.ensures ∙ ap (λ (s : LitSetList). s.lits ++ c.at-l.result ∷ []) c.clear.ensures ∙ ap (λ (y : Literal). y ∷ []) (sym x.2) in
    record {
      vars = l.needed_vars ∙ sym h.vars;
      set_vars = ap (λ (s : LitSetList). s.vars) c.put.ensures ∙ ap (λ (s : LitSetList). s.vars) c.clear.ensures ∙ l.set_vars ∙ sym h.vars;
      trail_vars = h.trail_vars ∙ sym h.vars;
      units = subst K (sym h.vars) h.known;
      explains = subst P (sym lits) (name-explains k.clauses.clauses t.entries k.explainer.named r x.0 x.1 c.count-2.ensures.is_trail.once c.reason_index_of_entry-reason.ensures.known (c.reason_index_of_entry-reason.ensures.reason x.0 x.1));
    }

pub add-requires-clause-within : goal.add-requires-clause-within
add-requires-clause-within c =
    let k = c.args.self.now in
    let t = k.trail in
    let x = mapped-Some (λ (e : Entry). e.lit) (slice_get t.entries k.explainer.named) c.at-l.result c.at-l.ensures in
    let h = c.requires.loose.held in
    let own : is_lit_over k.clauses.vars c.at-l.result ≡ true = ap (λ (n : ℕ). is_lit_over n c.at-l.result) (h.vars ∙ sym h.trail_vars) ∙ ap (is_lit_over t.vars) (sym x.2) ∙ entry-within t k.explainer.named x.0 c.count-2.ensures.is_trail x.1 in
    ap (is_clause_over k.clauses.vars) c.in_ok-alone.ensures ∙ and_from (is_lit_over k.clauses.vars c.at-l.result) true own refl

pub returns-clause-loose : goal.returns-clause-loose
returns-clause-loose c =
    let k = c.args.self.now in
    let m = c.add.new.self in
    let t = k.trail in
    let y = k.explainer in
    let h = c.requires.loose.held in
    let f = k.formula.now in
    let x = mapped-Some (λ (e : Entry). e.lit) (slice_get t.entries y.named) c.at-l.result c.at-l.ensures in
    let l = x.0.lit in
    let hints = c.in_ok-hints.hints in
    let count = c.count-3.result in
    let trail = c.count-2.ensures.is_trail in
    let rest = c.in_ok-add.ensures.rest in
    let alone : c.in_ok-alone.field-0 ≡ l ∷ [] = c.in_ok-alone.ensures ∙ ap (λ (z : Literal). z ∷ []) (sym x.2) in
    let A : List Literal → Type 0 = λ ls. IsClauseAdded k.clauses ls m.clauses in
    let H : List Literal → Type 0 = λ ls. HintsDeriveClauseOfLiterals k.clauses.clauses ls hints in
    let lits : c.put.new.self.lits ≡ l ∷ [] = ap (λ (s : LitSetList). s.lits) c.put.ensures ∙ ap (λ (s : LitSetList). s.lits ++ c.at-l.result ∷ []) c.clear.ensures ∙ ap (λ (z : Literal). z ∷ []) (sym x.2) in
    let within : is_lit_over f.vars l ≡ true = ap (λ (n : ℕ). is_lit_over n l) (sym h.trail_vars) ∙ entry-within t y.named x.0 trail x.1 in
    let of : IsClauseOfExactlyLiterals f.vars (l ∷ []) (l ∷ []) = record { within = and_from (is_lit_over f.vars l) true within refl; differ = refl; fewer = λ n z. z; more = λ n z. z } in
    let derived = step-derived f.vars k.clauses.clauses (l ∷ []) (l ∷ []) hints (subst H lits c.in_ok-hints.ensures.hints) of in
    let low = is_lit_over-parts f.vars l within in
    let added = subst A alone c.in_ok-add.ensures.clauses in
    let room : l.var < length y.units.items = omega (arith, low.1, h.known.sized) in
    let named = held-named f k.clauses m.clauses t k.queue y.units.items y.named count k.log x.0 hints h c.count.ensures.clauses c.count-3.ensures.clauses added trail x.1 derived room c.count-3.ensures.count in
    let V : ℕ → Type 0 = λ v. IsBaseInvariant f m.clauses t k.queue (set y.units.items v count) (y.named + 1) (k.log ++ record { clause = l ∷ []; hints = hints } ∷ []) in
    let C : List Literal → Type 0 = λ ls. IsBaseInvariant f m.clauses t k.queue (set y.units.items c.var.result count) (y.named + 1) (k.log ++ record { clause = ls; hints = hints } ∷ []) in
    let E : Explainer → Type 0 = λ z. IsBaseInvariant f m.clauses t k.queue (set z.units.items c.var.result count) (z.named + 1) (k.log ++ record { clause = c.in_ok-alone.field-0; hints = hints } ∷ []) in
    let L : List Step → Type 0 = λ log. IsBaseInvariant f m.clauses t k.queue (set c.explain.new.self.units.items c.var.result count) (c.explain.new.self.named + 1) log in
    let B : DerivationState → Type 0 = λ b. IsBaseInvariant b.formula.now m.clauses b.trail b.queue (set b.explainer.units.items c.var.result count) (b.explainer.named + 1) b.log in
    let N : DerivationState → Type 0 = λ b. b.explainer.needed.vars ≡ b.formula.now.vars in
    let S : DerivationState → Type 0 = λ b. b.set.vars ≡ b.formula.now.vars in
    record {
      held = subst B (sym rest) (subst L (sym c.in_ok-add.ensures.log) (subst E (sym c.in_ok-hints.ensures.rest) (subst C (sym alone) (subst V (ap (λ (z : Literal). z.var) x.2 ∙ sym c.var.ensures) named))));
      needed_vars = subst N (sym rest) (c.in_ok-hints.ensures.vars ∙ c.requires.loose.needed_vars);
      set_vars = subst S (sym rest) (ap (λ (s : LitSetList). s.vars) c.put.ensures ∙ ap (λ (s : LitSetList). s.vars) c.clear.ensures ∙ c.requires.loose.set_vars);
    }

pub returns-clause-same : goal.returns-clause-same
returns-clause-same c =
    let k = c.args.self.now in
    let m = c.add.new.self in
    let t = k.trail in
    let y = k.explainer in
    let x = mapped-Some (λ (e : Entry). e.lit) (slice_get t.entries y.named) c.at-l.result c.at-l.ensures in
    let rest = c.in_ok-add.ensures.rest in
    let d = c.in_ok-alone.field-0 in
    let alone : x.0.lit ∷ [] ≡ d = ap (λ (z : Literal). z ∷ []) x.2 ∙ sym c.in_ok-alone.ensures in
    let is = added-clauses k.clauses m.clauses d c.in_ok-add.ensures.clauses in
    let trail = ap (λ (b : DerivationState). b.trail) rest in
    let A : List Literal → Type 0 = λ ls. AreEquivalent (k.clauses.clauses ++ ls ∷ []) k.clauses.clauses in
    let M : List (List Literal) → Type 0 = λ cs. AreEquivalent k.clauses.clauses cs in
    let r = c.reason_index_of_entry-reason in
    let spare = subst A alone (entry-alike k.clauses.clauses t.entries y.units.items k.formula.now.vars y.named r.result x.0 c.count.ensures.formula.differ c.requires.loose.held.known x.1 (r.ensures.reason x.0 x.1)) in
    record {
      same = record { formula = ap (λ (b : DerivationState). b.formula) rest; alike = subst M (sym is) (alike-back (k.clauses.clauses ++ d ∷ []) k.clauses.clauses spare) };
      refuted = ap (λ (b : DerivationState). b.refuted) rest;
      trail = trail;
      conflicts = λ i q. ap (λ (u : TrailList). is_conflict m.clauses.clauses (lits_of u.entries) i) trail
          ∙ ap (λ (cs : List (List Literal)). is_conflict cs (lits_of t.entries) i) is
          ∙ conflict-more k.clauses.clauses (d ∷ []) (lits_of t.entries) i q;
    }
