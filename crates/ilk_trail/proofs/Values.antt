use Rattle.std.proofs.Common.{◌≡◌, ◌≢◌, ℕ, ◌+◌, ◌*◌, ◌<◌, ◌≤◌, Bool, true, false, if◌then◌else◌, List, length, get_or, set, sym, subst, ◌∙◌, arith, Option, None}
use Rattle.std.specs.Bool.{beq}
use Rattle.std.proofs.lemmas.List.{get_or-set_same, get_or-set_other}
use Rattle.std.proofs.Math.ListN.{length-set}
use Rattle.ilk_cnf.specs.Literal.{Literal, negated_lit}
use Rattle.ilk_cnf.specs.Code.{code_of}

-- The values with `f true` at literal `l` and `f false` at its opposite.
abbrev pub set_both : List (Option Bool) → Literal → (Bool → Option Bool) → List (Option Bool)
set_both values l f = set (set values (code_of l) (f true)) (code_of (negated_lit l)) (f false)

pub length-set_both : (values : List (Option Bool)) (l : Literal) (f : Bool → Option Bool) → length (set_both values l f) ≡ length values
length-set_both values l f = simp length-set

bit-small : (b : Bool) → (if b then 1 else 0) < 2
bit-small true = omega arith
bit-small false = omega arith

pub code-below : (l : Literal) (n : ℕ) → l.var ≤ n → code_of l < 2 * (n + 1)
code-below l n h = omega (arith, h, bit-small l.positive)

codes-differ : (l m : Literal) → m.var ≢ l.var → code_of m ≢ code_of l
codes-differ l m n q = n (omega (arith, q, bit-small l.positive, bit-small m.positive))

pub set_both-other : (values : List (Option Bool)) (l m : Literal) (f : Bool → Option Bool) → m.var ≢ l.var → get_or (set_both values l f) (code_of m) None ≡ get_or values (code_of m) None
set_both-other values l m f n =
    get_or-set_other (set values (code_of l) (f true)) (code_of (negated_lit l)) (code_of m) (f false) None (codes-differ (negated_lit l) m n)
    ∙ get_or-set_other values (code_of l) (code_of m) (f true) None (codes-differ l m n)

both-signs : (values : List (Option Bool)) (v : ℕ) (b c : Bool) (f : Bool → Option Bool) → 2 * v + 1 < length values → get_or (set_both values (record { var = v; positive = b }) f) (code_of (record { var = v; positive = c })) None ≡ f (beq b c)
both-signs values v true true f h = get_or-set_other (set values (2 * v + 1) (f true)) (2 * v + 0) (2 * v + 1) (f false) None (λ q. absurd (omega (arith, q))) ∙ get_or-set_same values (2 * v + 1) (f true) None (omega (arith, h))
both-signs values v true false f h = (let k : length (set values (2 * v + 1) (f true)) ≡ length values = simp length-set in get_or-set_same (set values (2 * v + 1) (f true)) (2 * v + 0) (f false) None (omega (arith, h, k)))
both-signs values v false true f h = (let k : length (set values (2 * v + 0) (f true)) ≡ length values = simp length-set in get_or-set_same (set values (2 * v + 0) (f true)) (2 * v + 1) (f false) None (omega (arith, h, k)))
both-signs values v false false f h = get_or-set_other (set values (2 * v + 0) (f true)) (2 * v + 1) (2 * v + 0) (f false) None (λ q. absurd (omega (arith, q))) ∙ get_or-set_same values (2 * v + 0) (f true) None (omega (arith, h))

pub set_both-same : (values : List (Option Bool)) (l m : Literal) (f : Bool → Option Bool) (n : ℕ) → length values ≡ 2 * (n + 1) → l.var ≤ n → m.var ≡ l.var → get_or (set_both values l f) (code_of m) None ≡ f (beq l.positive m.positive)
set_both-same values l m f n k h p =
    let P : ℕ → Type 0 = λ j. get_or (set_both values l f) (code_of (record { var = j; positive = m.positive })) None ≡ f (beq l.positive m.positive) in
    subst P (sym p) (both-signs values l.var l.positive m.positive f (omega (arith, k, h)))
