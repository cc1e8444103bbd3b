use Rattle.std.proofs.Common.{◌≡◌, ℕ, zero, suc, ◌+◌, ◌*◌, ◌<◌, ◌≤◌, inl, inr, true, false, List, [], ◌∷◌, ◌++◌, length, get_or, refl, sym, ap, ◌∙◌, subst, arith, Some, length-append}
use Rattle.std.specs.Prelude.{nat_lt}
use Rattle.std.specs.List.{slice_get}
use Rattle.std.proofs.lemmas.Bool.{lt-ltb, le-ltb}
use Rattle.std.proofs.lemmas.List.{get_or_append_left}
use Rattle.ilk_arena.specs.Words.{IsItemOfList}
use Rattle.ilk_arena.specs.Linked.{references_in_block_from, references_in_block, IsGaplessFrom}

blocks-long : (ws : List ℕ) (k : ℕ) (cs : List ℕ) → IsGaplessFrom ws k cs → k + 7 * length cs ≤ length ws
blocks-long ws k [] b = omega (arith, b)
blocks-long ws k (c ∷ cs) b = omega (arith, b.0, blocks-long ws (c + 7 + get_or ws c 0) cs b.2)

references-from : (ws : List ℕ) (n k : ℕ) (cs : List ℕ) → length cs ≤ n → IsGaplessFrom ws k cs → references_in_block_from ws n k ≡ cs
references-from ws zero k [] h b = refl
references-from ws zero k (c ∷ cs) h b = absurd (omega arith)
references-from ws (suc n) k [] h b =
    let e : nat_lt k (length ws) ≡ false = le-ltb k (length ws) (omega (arith, b)) in
    rw e refl
references-from ws (suc n) k (c ∷ cs) h b =
    let e : nat_lt k (length ws) ≡ true = lt-ltb k (length ws) (omega (arith, b.0, b.1)) in
    let t : references_in_block_from ws n (k + 7 + get_or ws k 0) ≡ cs = (let P : ℕ → Type 0 = λ j. references_in_block_from ws n (j + 7 + get_or ws j 0)
    ≡ cs in subst P (sym b.0) (references-from ws n (c + 7 + get_or ws c 0) cs (omega arith) b.2)) in
    rw (e, t) (ap (λ j. j ∷ cs) b.0)

pub references-are : (ws : List ℕ) (cs : List ℕ) → IsGaplessFrom ws 1 cs → references_in_block ws ≡ cs
references-are ws cs b = references-from ws (length ws) 1 cs (omega (arith, blocks-long ws 1 cs b)) b

pub few-clauses : (ws : List ℕ) (cs : List ℕ) → IsGaplessFrom ws 1 cs → length cs < length ws
few-clauses ws cs b = omega (arith, blocks-long ws 1 cs b)

pub blocks-same : (ws vs : List ℕ) (k : ℕ) (cs : List ℕ) → length vs ≡ length ws → ((c : ℕ) → IsItemOfList cs c → get_or vs c 0 ≡ get_or ws c 0) → IsGaplessFrom ws k cs → IsGaplessFrom vs k cs
blocks-same ws vs k [] n e b = b ∙ sym n
blocks-same ws vs k (c ∷ cs) n e b =
    let h : get_or vs c 0 ≡ get_or ws c 0 = e c (inl refl) in
    (b.0, omega (arith, h, n, b.1), rw h (blocks-same ws vs (c + 7 + get_or ws c 0) cs n (λ d s. e d (inr s)) b.2))

pub blocks-push : (ws xs : List ℕ) (k : ℕ) (cs : List ℕ) → length xs ≡ 7 + get_or (ws ++ xs) (length ws) 0 → IsGaplessFrom ws k cs → IsGaplessFrom (ws ++ xs) k (cs ++ (length ws ∷ []))
blocks-push ws xs k [] n b =
    let l = length-append ws xs in
    (b, omega (arith, n, l), omega (arith, n, l))
blocks-push ws xs k (c ∷ cs) n b =
    let h : get_or (ws ++ xs) c 0 ≡ get_or ws c 0 = get_or_append_left ws xs 0 c (omega (arith, b.1)) in
    let l = length-append ws xs in
    (b.0, omega (arith, h, l, b.1), rw h (blocks-push ws xs (c + 7 + get_or ws c 0) cs n b.2))

pub stands-at : (xs : List ℕ) (i x : ℕ) → slice_get xs i ≡ Some x → IsItemOfList xs x
stands-at [] i x h = absurd (cc)
stands-at (y ∷ xs) zero x h = inl cc
stands-at (y ∷ xs) (suc i) x h = inr (stands-at xs i x h)
