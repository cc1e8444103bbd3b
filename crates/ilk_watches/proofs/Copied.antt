use Rattle.std.proofs.Common.{◌≡◌, ◌+◌, ◌<◌, ◌∷◌, ◌++◌, ℕ, List, [], Some, length, take, sym, ap, ◌∙◌}
use Rattle.std.proofs.lemmas.List.{take_more}
use Rattle.std.proofs.lemmas.Option.{get_or_from_slice_get}
use Rattle.std.specs.List.{slice_get}
use Rattle.ilk_cnf.specs.Literal.{Literal}
use Rattle.ilk_cnf.specs.Formula.{Formula}

pub copied-more : (f : Formula) (c : ℕ) (x : List Literal) → c < length f.clauses → slice_get f.clauses c ≡ Some x → take c f.clauses ++ x ∷ [] ≡ take (c + 1) f.clauses
copied-more f c x h e = sym (take_more f.clauses c x h ∙ ap (λ y. take c f.clauses ++ y ∷ []) (get_or_from_slice_get f.clauses c x x e))
