use Rattle.std.proofs.Common.{◌≡◌, [], ◌∷◌, ◌++◌, ◌∙◌, List, ℕ, true, ap, sym, subst, refl}
use Rattle.std.proofs.lemmas.Bool.{true≢false}
use Rattle.ilk_cnf.specs.Literal.{Literal}
use Rattle.ilk_log.specs.Derived.{is_refutation}
use Rattle.ilk_rup.specs.LitSet.{LitSetList}
use Rattle.ilk_rup.specs.Needs.{HintsDeriveClauseOfLiterals, IsClauseFalseApartFromSet, AreUnitHintsByVar}
use Rattle.ilk_rup.proofs.Alike.{alike-self}
use Rattle.ilk_rup.proofs.Holds.{refute-explains}
use Rattle.ilk_rup.proofs.Keeping.{log-refutes, step-derived}
use Rattle.ilk_rup.proofs.base.DerivationState.refute.Goals as goal

pub explain-requires : goal.explain-requires
explain-requires c =
    let k = c.args.self.now in
    let l = c.requires.loose in
    let h = l.held in
    let y = k.explainer in
    let K : ℕ → Type 0 = λ n. AreUnitHintsByVar y.units.items k.clauses.clauses k.trail.entries n y.named in
    let P : List Literal → Type 0 = λ ls. IsClauseFalseApartFromSet k.clauses.clauses k.trail.entries ls c.args.conflict y.named y.named y.named in
    record {
      vars = l.needed_vars ∙ sym h.vars;
      set_vars = ap (λ (s : LitSetList). s.vars) c.clear.ensures ∙ l.set_vars ∙ sym h.vars;
      trail_vars = h.trail_vars ∙ sym h.vars;
      units = subst K (sym h.vars) h.known;
      explains = subst P (sym (ap (λ (s : LitSetList). s.lits) c.clear.ensures)) (refute-explains k.clauses.clauses k.trail.entries y.named c.args.conflict c.requires.conflict c.requires.named);
    }

pub returns-clause-stands : goal.returns-clause-stands
returns-clause-stands c =
    let k = c.args.self.now in
    let f = k.formula.now in
    let cs = k.clauses.clauses in
    let hints = c.in_ok-hints.hints in
    let H : List Literal → Type 0 = λ ls. HintsDeriveClauseOfLiterals cs ls hints in
    let L : List Literal → Type 0 = λ ls. is_refutation f (k.log ++ record { clause = ls; hints = hints } ∷ []) ≡ true in
    let derived = step-derived f.vars cs [] [] hints (subst H (ap (λ (s : LitSetList). s.lits) c.clear.ensures) c.in_ok-hints.ensures.hints) (record { within = refl; differ = refl; fewer = λ m x. x; more = λ m x. x }) in
    record {
      set_vars = ap (λ (s : LitSetList). s.vars) c.clear.ensures ∙ c.requires.loose.set_vars;
      going = λ e. absurd (true≢false e);
      ended = λ _. record {
        log = ap (is_refutation f) c.in_ok-push.ensures.ok ∙ subst L (sym c.new-clause.ensures) (log-refutes f cs k.log (record { clause = []; hints = hints }) c.requires.loose.held.logged derived refl);
        follows = (hints, derived);
      };
    }

pub returns-clause-same : goal.returns-clause-same
returns-clause-same c = record { formula = refl; alike = alike-self c.args.self.now.clauses.clauses }
