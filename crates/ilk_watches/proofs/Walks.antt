use Rattle.std.proofs.Common.{◌≡◌, ◌<◌, ℕ, true, false, eqb, List, [], ◌∷◌, ◌++◌, length, take, Option, Some, None, refl, sym, ap, ◌∙◌, subst, arith, append_assoc, ◌&&◌}
use Rattle.std.specs.List.{slice_get, last_or, IsDistinct, AllByRecursion}
use Rattle.std.specs.Option.{option_map}
use Rattle.std.proofs.lemmas.Bool.{or_left, or_right, or_parts, eq-eqb, eqb-false, ne_eqb, and_from}
use Rattle.std.proofs.lemmas.Map.Keys.{IsDistinct-head, IsDistinct-tail, IsDistinct-cons}
use Rattle.ilk_base.proofs.Lists.{last-some}
use Rattle.ilk_cnf.specs.Literal.{Literal}
use Rattle.ilk_log.specs.Propagation.{is_false}
use Rattle.ilk_trail.specs.declared.entry.Entry.{Entry}
use Rattle.ilk_trail.specs.Laws.{lits_of}
use Rattle.ilk_arena.specs.Arena.{ArenaContent, reference_after_in_list, chain_of, first_of, follows_or_heads_chain, contains_reference}
use Rattle.ilk_arena.specs.Chains.{EachLongClauseWatchesTwo}
use Rattle.ilk_arena.proofs.Watching.{once-head, stands-front}
use Rattle.ilk_watches.specs.Visits.{rest_from_reference, count_rest_of_chain, rest_from, IsVisitResult, OtherWatchesTrueInPassed, OtherWatchesTrueBefore}
use Rattle.ilk_watches.specs.declared.visit.Visited.TheVariants.{Stays, Moves}
use Rattle.ilk_watches.proofs.Covers.{walk-stays, walk-moves}

pub record EntryAt (es : List Entry) (i : ℕ) (l : Literal) : Type 0 where
  pub entry : Entry
  pub stands : slice_get es i ≡ Some entry
  pub is : entry.lit ≡ l

pub entry-at : (es : List Entry) (i : ℕ) (l : Literal) → option_map (λ (e : Entry). e.lit) (slice_get es i) ≡ Some l → EntryAt es i l
entry-at es i l h = go (slice_get es i) refl h
  where
    go : (o : Option Entry) → slice_get es i ≡ o → option_map (λ (e : Entry). e.lit) o ≡ Some l → EntryAt es i l
    go None e h = absurd (cc)
    go (Some x) e h = record { entry = x; stands = e; is = cc }

follows_or_heads_chain-last : (x : ℕ) (xs : List ℕ) (c : ℕ) (rest : List ℕ) → follows_or_heads_chain (last_or (Some x) xs) c (x ∷ xs ++ c ∷ rest) ≡ true
follows_or_heads_chain-last x [] c rest = or_left (eqb x x && eqb c c) (follows_or_heads_chain (Some x) c (c ∷ rest)) (and_from (eqb x x) (eqb c c) (eq-eqb x x refl) (eq-eqb c c refl))
follows_or_heads_chain-last x (y ∷ xs) c rest =
    let b = last-some y xs in
    let r : follows_or_heads_chain (Some b.0) c (y ∷ xs ++ c ∷ rest) ≡ true = ap (λ (o : Option ℕ). follows_or_heads_chain o c (y ∷ xs ++ c ∷ rest)) (sym b.1) ∙ follows_or_heads_chain-last y xs c rest in
    ap (λ (o : Option ℕ). follows_or_heads_chain o c (x ∷ (y ∷ xs ++ c ∷ rest))) b.1 ∙ or_right (eqb x b.0 && follows_or_heads_chain None c (y ∷ xs ++ c ∷ rest)) (follows_or_heads_chain (Some b.0) c (y ∷ xs ++ c ∷ rest)) r

follows_or_heads_chain-is : (passed : List ℕ) (c : ℕ) (rest : List ℕ) → follows_or_heads_chain (last_or None passed) c (passed ++ c ∷ rest) ≡ true
follows_or_heads_chain-is [] c rest = eq-eqb c c refl
follows_or_heads_chain-is (x ∷ passed) c rest = follows_or_heads_chain-last x passed c rest

last-push : (o : Option ℕ) (xs : List ℕ) (c : ℕ) → last_or o (xs ++ c ∷ []) ≡ Some c
last-push o [] c = refl
last-push o (x ∷ xs) c = last-push (Some x) xs c

in-middle : (xs : List ℕ) (c : ℕ) (ys : List ℕ) → contains_reference c (xs ++ c ∷ ys) ≡ true
in-middle [] c ys = or_left (eqb c c) (contains_reference c ys) (eq-eqb c c refl)
in-middle (x ∷ xs) c ys = or_right (eqb x c) (contains_reference c (xs ++ c ∷ ys)) (in-middle xs c ys)

apart : (x c : ℕ) (xs ys : List ℕ) → IsDistinct eqb (x ∷ xs ++ c ∷ ys) → eqb x c ≡ false
apart x c xs ys d =
    let away = stands-front x xs (c ∷ ys) (once-head x (xs ++ c ∷ ys) d) in
    ne_eqb x c (λ q. eqb-false c x (or_parts (eqb c x) (contains_reference x ys) away.1).0 (sym q))

reference_after_in_list-is : (passed : List ℕ) (c : ℕ) (rest : List ℕ) → IsDistinct eqb (passed ++ c ∷ rest) → reference_after_in_list c (passed ++ c ∷ rest) ≡ first_of rest
reference_after_in_list-is [] c rest d = (let e = eq-eqb c c refl in rw e refl)
reference_after_in_list-is (x ∷ passed) c rest d = (let e = apart x c passed rest d in rw e (reference_after_in_list-is passed c rest (IsDistinct-tail eqb x (passed ++ c ∷ rest) d)))

pub rest-is : (passed rest : List ℕ) → IsDistinct eqb (passed ++ rest) → rest_from (first_of rest) (passed ++ rest) ≡ rest
rest-is passed [] d = refl
rest-is passed (c ∷ rest) d = go passed d
  where
    go : (xs : List ℕ) → IsDistinct eqb (xs ++ c ∷ rest) → rest_from_reference c (xs ++ c ∷ rest) ≡ c ∷ rest
    go [] d = (let e = eq-eqb c c refl in rw e refl)
    go (x ∷ xs) d = (let e = apart x c xs rest d in rw e (go xs (IsDistinct-tail eqb x (xs ++ c ∷ rest) d)))

distinct-less : (xs : List ℕ) (c : ℕ) (ys : List ℕ) → IsDistinct eqb (xs ++ c ∷ ys) → IsDistinct eqb (xs ++ ys)
distinct-less [] c ys d = IsDistinct-tail eqb c ys d
distinct-less (x ∷ xs) c ys d = IsDistinct-cons eqb x (xs ++ ys) (all-less x xs (IsDistinct-head eqb x (xs ++ c ∷ ys) d)) (distinct-less xs c ys (IsDistinct-tail eqb x (xs ++ c ∷ ys) d))
  where
    all-less : (x : ℕ) (zs : List ℕ) → AllByRecursion (λ y. eqb x y ≡ false) (zs ++ c ∷ ys) → AllByRecursion (λ y. eqb x y ≡ false) (zs ++ ys)
    all-less x [] k = k.1
    all-less x (z ∷ zs) k = (k.0, all-less x zs k.1)

pub record AtHand (a : ArenaContent) (es : List Entry) (f : Literal) (before : Option ℕ) (c : ℕ) : Type 0 where
  pub passed : List ℕ
  pub rest : List ℕ
  pub before_is : before ≡ last_or None passed
  pub is : OtherWatchesTrueInPassed a es f passed (c ∷ rest)

pub at-hand : (a : ArenaContent) (es : List Entry) (f : Literal) (before next : Option ℕ) (c : ℕ) → OtherWatchesTrueBefore a es f before next → next ≡ Some c → AtHand a es f before c
at-hand a es f before next c w h = go w.rest w.is (sym w.next_is ∙ h)
  where
    go : (rest : List ℕ) → OtherWatchesTrueInPassed a es f w.passed rest → first_of rest ≡ Some c → AtHand a es f before c
    go [] i e = absurd (cc)
    go (x ∷ rest) i e =
        let same : x ≡ c = cc in
        let P : ℕ → Type 0 = λ y. OtherWatchesTrueInPassed a es f w.passed (y ∷ rest) in
        record { passed = w.passed; rest = rest; before_is = w.before_is; is = subst P same i }

pub hand-stands : (a : ArenaContent) (es : List Entry) (f : Literal) (before : Option ℕ) (c : ℕ) → AtHand a es f before c → contains_reference c (chain_of a f) ≡ true
hand-stands a es f before c h = ap (contains_reference c) h.is.split ∙ in-middle h.passed c h.rest

pub hand-follows_or_heads_chain : (a : ArenaContent) (es : List Entry) (f : Literal) (before : Option ℕ) (c : ℕ) → AtHand a es f before c → follows_or_heads_chain before c (chain_of a f) ≡ true
hand-follows_or_heads_chain a es f before c h = ap (follows_or_heads_chain before c) h.is.split ∙ ap (λ (o : Option ℕ). follows_or_heads_chain o c (h.passed ++ c ∷ h.rest)) h.before_is ∙ follows_or_heads_chain-is h.passed c h.rest

pub record Stepped (a b : ArenaContent) (fs : List Entry) (f : Literal) (now before next : Option ℕ) : Type 0 where
  pub walking : OtherWatchesTrueBefore b fs f before next
  pub smaller : count_rest_of_chain b f next < count_rest_of_chain a f now

distinct-of : (a : ArenaContent) (es : List Entry) (f : Literal) (passed rest : List ℕ) → EachLongClauseWatchesTwo a → OtherWatchesTrueInPassed a es f passed rest → IsDistinct eqb (passed ++ rest)
distinct-of a es f passed rest k w = (let D : List ℕ → Type 0 = λ xs. IsDistinct eqb xs in subst D w.split (k.once f))

left-is : (a : ArenaContent) (es : List Entry) (f : Literal) (passed rest : List ℕ) → OtherWatchesTrueInPassed a es f passed rest → IsDistinct eqb (passed ++ rest) → rest_from (first_of rest) (chain_of a f) ≡ rest
left-is a es f passed rest w d = ap (rest_from (first_of rest)) w.split ∙ rest-is passed rest d

pub step-stays :
    (a b : ArenaContent) (es fs : List Entry) (f : Literal) (before now : Option ℕ) (c : ℕ) (next : Option ℕ) →
    AtHand a es f before c → now ≡ Some c → next ≡ reference_after_in_list c (chain_of a f) → EachLongClauseWatchesTwo a →
    IsVisitResult a es b fs c f Stays → take (length es) fs ≡ es → Stepped a b fs f now (Some c) next
step-stays a b es fs f before now c next h at e k v p =
    let d = distinct-of a es f h.passed (c ∷ h.rest) k h.is in
    let w = walk-stays a b es fs f h.passed c h.rest h.is v.0 p v.1 in
    let after_it : next ≡ first_of h.rest = e ∙ ap (reference_after_in_list c) h.is.split ∙ reference_after_in_list-is h.passed c h.rest d in
    let D : List ℕ → Type 0 = λ xs. IsDistinct eqb xs in
    let left_b = ap length (left-is b fs f (h.passed ++ c ∷ []) h.rest w (subst D (sym (append_assoc h.passed (c ∷ []) h.rest)) d)) in
    let left_a = ap length (left-is a es f h.passed (c ∷ h.rest) h.is d) in
    let na = ap (λ (o : Option ℕ). length (rest_from o (chain_of a f))) at in
    let nb = ap (λ (o : Option ℕ). length (rest_from o (chain_of b f))) after_it in
    record {
      walking = record { passed = h.passed ++ c ∷ []; rest = h.rest; before_is = sym (last-push None h.passed c); next_is = after_it; is = w };
      smaller = omega (arith, left_a, left_b, na, nb);
    }

pub step-moves :
    (a b : ArenaContent) (es fs : List Entry) (f : Literal) (before now : Option ℕ) (c : ℕ) (next : Option ℕ) →
    AtHand a es f before c → now ≡ Some c → next ≡ reference_after_in_list c (chain_of a f) → EachLongClauseWatchesTwo a →
    IsVisitResult a es b fs c f Moves → take (length es) fs ≡ es → is_false (lits_of es) f ≡ true →
    Stepped a b fs f now before next
step-moves a b es fs f before now c next h at e k v p denied =
    let d = distinct-of a es f h.passed (c ∷ h.rest) k h.is in
    let w = walk-moves a b es fs f v.0 h.passed c h.rest h.is v.2 p (k.once f) denied v.1 in
    let after_it : next ≡ first_of h.rest = e ∙ ap (reference_after_in_list c) h.is.split ∙ reference_after_in_list-is h.passed c h.rest d in
    let left_b = ap length (left-is b fs f h.passed h.rest w (distinct-less h.passed c h.rest d)) in
    let left_a = ap length (left-is a es f h.passed (c ∷ h.rest) h.is d) in
    let na = ap (λ (o : Option ℕ). length (rest_from o (chain_of a f))) at in
    let nb = ap (λ (o : Option ℕ). length (rest_from o (chain_of b f))) after_it in
    record {
      walking = record { passed = h.passed; rest = h.rest; before_is = h.before_is; next_is = after_it; is = w };
      smaller = omega (arith, left_a, left_b, na, nb);
    }

pub all-passed : (a : ArenaContent) (es : List Entry) (f : Literal) (before next : Option ℕ) → (w : OtherWatchesTrueBefore a es f before next) → next ≡ None → OtherWatchesTrueInPassed a es f w.passed []
all-passed a es f before next w h = go w.rest w.is (sym w.next_is ∙ h)
  where
    go : (rest : List ℕ) → OtherWatchesTrueInPassed a es f w.passed rest → first_of rest ≡ None → OtherWatchesTrueInPassed a es f w.passed []
    go [] i e = i
    go (x ∷ rest) i e = absurd (cc)
