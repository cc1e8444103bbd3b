use Rattle.std.proofs.Common.{◌≡◌, ℕ, ◌≤◌, [], ◌++◌, length, drop, take, sym, ap, ◌∙◌, append-nil}
use Rattle.std.proofs.lemmas.List.{drop_all, drop_at, length-take-le, take_all}
use Rattle.ilk_lines.specs.Lines.{Bytes}

pub after-header : (header clauses whole into : Bytes) (n : ℕ) → length header ≤ n → take n into ≡ take n header → header ++ clauses ≡ whole → whole ≡ take n into ++ (clauses ++ [])
after-header header clauses whole into n past taken is =
    sym is
    ∙ ap (λ (t : Bytes). t ++ clauses) (sym (taken ∙ take_all n header past))
    ∙ ap (λ (t : Bytes). take n into ++ t) (sym (append-nil clauses))

pub taken-rest : (header clauses whole into : Bytes) (n first : ℕ) (before : Bytes) → n ≤ length into → whole ≡ take n into ++ (clauses ++ []) → length before ≤ first → header ≡ drop first before → header ++ clauses ≡ drop n whole
taken-rest header clauses whole into n first before within so past is =
    ap (λ (t : Bytes). t ++ clauses) (is ∙ drop_all first before past)
    ∙ sym (append-nil clauses)
    ∙ sym (ap (drop n) so ∙ drop_at (take n into) (clauses ++ []) n (length-take-le n into within))
