-- The literals that are read from numbers, and the numbers that are left.
use Rattle.std.proofs.Common.{◌≡◌, ℕ, List, [], ◌∷◌, ◌++◌, map, take, drop, suc, sym, ap, ◌∙◌, subst, append_assoc}
use Rattle.ilk_cnf.specs.Literal.{Literal}
use Rattle.ilk_log.specs.Packed.{lit_from_code}

pub record AtLiterals (whole : List ℕ) (count : ℕ) (read : List Literal) (left : List ℕ) (more : ℕ) : Type 0 where
  pub literals : read ++ map lit_from_code (take more left) ≡ map lit_from_code (take count whole)
  pub rest : drop more left ≡ drop count whole

pub literals_more :
    (whole : List ℕ) (count : ℕ) (read : List Literal) (left next : List ℕ) (more now number : ℕ) →
    now ≡ suc more → left ≡ number ∷ next → AtLiterals whole count read left now →
    AtLiterals whole count (read ++ lit_from_code number ∷ []) next more
literals_more whole count read left next more now number n e b = let a : AtLiterals whole count read left (suc more) = subst (AtLiterals whole count read left) n b in record {
  literals = append_assoc read (lit_from_code number ∷ []) (map lit_from_code (take more next)) ∙ ap (λ (xs : List ℕ). read ++ map lit_from_code (take (suc more) xs)) (sym e) ∙ a.literals;
  rest = ap (drop (suc more)) (sym e) ∙ a.rest;
}
