use Rattle.std.proofs.Common.{◌≡◌, ◌<◌, ℕ, List, length, take, Some, arith, sym, ap, ◌∙◌}
use Rattle.std.specs.List.{slice_get}
use Rattle.std.specs.Option.{option_map}
use Rattle.ilk_cnf.specs.Literal.{Literal, negated_lit}
use Rattle.ilk_cnf.specs.Formula.{is_lit_over}
use Rattle.ilk_log.specs.Propagation.{is_false}
use Rattle.ilk_trail.specs.declared.entry.Entry.{Entry}
use Rattle.ilk_trail.specs.Trail.{TrailList}
use Rattle.ilk_trail.specs.Laws.{IsTrail, lits_of}
use Rattle.ilk_trail.proofs.Entries.{entry-within}
use Rattle.ilk_arena.specs.Arena.{ArenaContent}
use Rattle.ilk_watches.specs.Chained.{SameClauses}
use Rattle.ilk_watches.specs.Visits.{EntryMakesLitFalse}
use Rattle.ilk_watches.proofs.Entries.{at-kept, entry-denies, length-kept}
use Rattle.ilk_watches.proofs.Walks.{entry-at}

pub made-false : {t : TrailList} {l f : Literal} (vars n : ℕ) → IsTrail t → t.vars ≡ vars → n < length t.entries → option_map (λ (e : Entry). e.lit) (slice_get t.entries n) ≡ Some l → f ≡ negated_lit l → EntryMakesLitFalse vars t.entries n f
made-false {t} {l} {f} vars n k same below h q =
    let at = entry-at t.entries n l h in
    let is : negated_lit at.entry.lit ≡ f = ap negated_lit at.is ∙ sym q in
    record {
      entry = at.entry;
      stands = at.stands;
      is = is;
      within = ap (λ (m : ℕ). is_lit_over m f) (sym same) ∙ ap (is_lit_over t.vars) (sym is) ∙ entry-within t n at.entry k at.stands;
      denied = ap (is_false (lits_of t.entries)) (sym is) ∙ entry-denies t.entries n at.entry at.stands;
      below = below;
    }

pub still-false : {a b : ArenaContent} {es fs : List Entry} {n : ℕ} {f : Literal} → EntryMakesLitFalse a.vars es n f → SameClauses a b → take (length es) fs ≡ es → EntryMakesLitFalse b.vars fs n f
still-false {a} {b} {es} {fs} {n} {f} m same kept =
    let stands : slice_get fs n ≡ Some m.entry = at-kept es fs n m.entry kept m.stands in
    let longer = length-kept es fs kept in
    record {
      entry = m.entry;
      stands = stands;
      is = m.is;
      within = ap (λ (k : ℕ). is_lit_over k f) same.vars ∙ m.within;
      denied = ap (is_false (lits_of fs)) (sym m.is) ∙ entry-denies fs n m.entry stands;
      below = omega (arith, longer, m.below);
    }
