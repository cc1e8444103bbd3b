use Rattle.std.proofs.Common.{◌≡◌, ℕ, zero, suc, ◌<◌, ◌≤◌, false, eqb, List, [], ◌∷◌, ◌++◌, length, refl, sym, subst, arith}
use Rattle.std.proofs.lemmas.Bool.Decides.{nat_tests}
use Rattle.ilk_arena.specs.Words.{next_reference_in_chain, IsChainPath, chain, AllSatisfy}

pub frame : (ws vs : List ℕ) (l k : ℕ) (cs : List ℕ) → AllSatisfy (λ c. next_reference_in_chain vs l c ≡ next_reference_in_chain ws l c) cs → IsChainPath ws l k cs → IsChainPath vs l k cs
frame ws vs l k [] e p = p
frame ws vs l k (c ∷ cs) e p =
    let P : ℕ → Type 0 = λ j. IsChainPath vs l j cs in
    (p.0, p.1, subst P (sym e.0) (frame ws vs l (next_reference_in_chain ws l c) cs e.1 p.2))

pub chain-is : (ws : List ℕ) (l n k : ℕ) (cs : List ℕ) → length cs ≤ n → IsChainPath ws l k cs → chain ws l n k ≡ cs
chain-is ws l zero k [] h p = refl
chain-is ws l zero k (c ∷ cs) h p = absurd (omega arith)
chain-is ws l (suc n) k [] h p = rw p refl
chain-is ws l (suc n) k (c ∷ cs) h p =
    let q : 0 < k = omega (arith, p.0, p.1) in
    let e : eqb k 0 ≡ false = grind (arith, nat_tests) in
    let t : chain ws l n (next_reference_in_chain ws l c) ≡ cs = chain-is ws l n (next_reference_in_chain ws l c) cs (omega arith) p.2 in
    let s : chain ws l n (next_reference_in_chain ws l k) ≡ cs = rw p.0 t in
    rw e (rw s (rw p.0 refl))

pub split : (ws : List ℕ) (l k : ℕ) (pre : List ℕ) (c : ℕ) (post : List ℕ) → IsChainPath ws l k (pre ++ (c ∷ post)) → IsChainPath ws l c (c ∷ post)
split ws l k [] c post p = (refl, p.1, p.2)
split ws l k (d ∷ pre) c post p = split ws l (next_reference_in_chain ws l d) pre c post p.2

pub unlink : (ws vs : List ℕ) (l k b c : ℕ) (pre post : List ℕ) →
    AllSatisfy (λ d. next_reference_in_chain vs l d ≡ next_reference_in_chain ws l d) pre →
    next_reference_in_chain vs l b ≡ next_reference_in_chain ws l c →
    AllSatisfy (λ d. next_reference_in_chain vs l d ≡ next_reference_in_chain ws l d) post → IsChainPath ws l k (pre ++ (b ∷ (c ∷ post))) →
    IsChainPath vs l k (pre ++ (b ∷ post))
unlink ws vs l k b c [] post e x f p =
    let P : ℕ → Type 0 = λ j. IsChainPath vs l j post in
    let q : IsChainPath vs l (next_reference_in_chain ws l c) post = frame ws vs l (next_reference_in_chain ws l c) post f p.2.2 in
    (p.0, p.1, subst P (sym x) q)
unlink ws vs l k b c (d ∷ pre) post e x f p =
    let P : ℕ → Type 0 = λ j. IsChainPath vs l j (pre ++ (b ∷ post)) in
    (p.0, p.1, subst P (sym e.0) (unlink ws vs l (next_reference_in_chain ws l d) b c pre post e.1 x f p.2))
