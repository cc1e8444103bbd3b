-- A literal is the one of its number.
use Rattle.std.proofs.Common.{◌≡◌, ℕ, ◌+◌, ◌*◌, ◌/◌, ◌%◌, Bool, true, false, List, [], ◌∷◌, map, refl, sym, ap, ◌∙◌, arith}
use Rattle.ilk_cnf.specs.Literal.{Literal}
use Rattle.ilk_cnf.specs.Code.{code_of, literal_of}
use Rattle.ilk_audit.specs.Stored.{literals_of}

literal-of : (v : ℕ) (b : Bool) → literal_of (code_of (record { var = v; positive = b })) ≡ record { var = v; positive = b }
literal-of v true =
    let q : (2 * v + 1) / 2 ≡ v = omega arith in
    let r : (2 * v + 1) % 2 ≡ 1 = omega arith in
    rw (q, r) refl
literal-of v false =
    let q : (2 * v + 0) / 2 ≡ v = omega arith in
    let r : (2 * v + 0) % 2 ≡ 0 = omega arith in
    rw (q, r) refl

pub literal_of-code_of : (l : Literal) → literal_of (code_of l) ≡ l
literal_of-code_of l = literal-of l.var l.positive

pub same-code : (l m : Literal) → code_of l ≡ code_of m → l ≡ m
same-code l m e = sym (literal_of-code_of l) ∙ ap literal_of e ∙ literal_of-code_of m

pub literals_back : (c : List Literal) → literals_of (map code_of c) ≡ c
literals_back [] = refl
literals_back (l ∷ c) = ap (λ (m : Literal). m ∷ literals_of (map code_of c)) (literal_of-code_of l) ∙ ap (λ (ls : List Literal). l ∷ ls) (literals_back c)
