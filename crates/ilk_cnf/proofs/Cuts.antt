-- Lists stored one after another in one list: the position of each, and appending one.
use Rattle.std.proofs.Common.{◌≡◌, ◌≤◌, ◌<◌, ◌+◌, ◌-◌, true, List, [], ◌∷◌, ◌++◌, length, get_or, take, drop, slice_get, Some, refl, ap, ℕ, zero, suc, sym, ◌∙◌, arith, length-drop}
use Rattle.std.proofs.lemmas.List.{take_all, drop_at, get_or_read, drop-append-le, take-append-le}
use Rattle.std.proofs.lemmas.Bool.{and_parts, and_from, eqb-true, eq-eqb, leb-true, le-leb}
use Rattle.std.specs.List.{slice_range}
use Rattle.ilk_cnf.specs.Flat.{split_at_ends, ends_ascend_to}

pub length-split_at_ends : {X : Type 0} (start : ℕ) (ends : List ℕ) (xs : List X) → length (split_at_ends start ends xs) ≡ length ends
length-split_at_ends start [] xs = refl
length-split_at_ends start (end ∷ ends) xs = ap suc (length-split_at_ends end ends xs)

-- List i goes from the previous end to its own.
list-at : {X : Type 0} (start : ℕ) (ends : List ℕ) (xs : List X) (i d : ℕ) → i < length ends → slice_get (split_at_ends start ends xs) i ≡ Some (slice_range xs (get_or (start ∷ ends) i d) (get_or ends i d))
list-at start [] xs i d h = absurd (omega (arith, h))
list-at start (end ∷ ends) xs zero d h = refl
list-at start (end ∷ ends) xs (suc i) d h = list-at end ends xs i d (omega (arith, h))

starts-within : (start : ℕ) (ends : List ℕ) (n : ℕ) → ends_ascend_to start ends n ≡ true → start ≤ n
starts-within start [] n h = let same = eqb-true start n h in omega (arith, same)
starts-within start (end ∷ ends) n h =
    let parts = and_parts _ _ h in
    let here = leb-true start end parts.0 in
    let rest = starts-within end ends n parts.1 in
    omega (arith, here, rest)

ends-at : (start : ℕ) (ends : List ℕ) (n i d : ℕ) → ends_ascend_to start ends n ≡ true → i < length ends → (get_or (start ∷ ends) i d ≤ get_or ends i d) × (get_or ends i d ≤ n)
ends-at start [] n i d h k = absurd (omega (arith, k))
ends-at start (end ∷ ends) n zero d h k = let parts = and_parts _ _ h in (leb-true start end parts.0, starts-within end ends n parts.1)
ends-at start (end ∷ ends) n (suc i) d h k =
    let less : i < length ends = omega (arith, k) in
    let parts = and_parts _ _ h in
    ends-at end ends n i d parts.1 less

pub within : {X : Type 0} (ends : List ℕ) (xs : List X) (now : List (List X)) (i : ℕ) → split_at_ends 0 ends xs ≡ now → i < length now → i < length ends
within ends xs now i is h =
    let long = sym (length-split_at_ends 0 ends xs) ∙ ap length is in omega (arith, h, long)

-- The position of list i.
pub record Stands {X : Type 0} (xs : List X) (now : List (List X)) (i start end : ℕ) : Type 0 where
  pub order : start ≤ end
  pub within : end ≤ length xs
  pub is : slice_get now i ≡ Some (slice_range xs start end)

pub stands : {X : Type 0} (ends : List ℕ) (xs : List X) (now : List (List X)) (i start end : ℕ) →
    ends_ascend_to 0 ends (length xs) ≡ true → split_at_ends 0 ends xs ≡ now → i < length now →
    start ≡ get_or (0 ∷ ends) i 0 → end ≡ get_or ends i end → Stands xs now i start end
stands ends xs now i start end h is k s read =
    let below = within ends xs now i is k in
    let e = get_or_read ends i end below read 0 in
    let bounds = ends-at 0 ends (length xs) i 0 h below in
    record {
      order = omega (arith, bounds.0, s, e);
      within = omega (arith, bounds.1, e);
      is = sym (ap (λ (lists : List (List _)). slice_get lists i) is) ∙ list-at 0 ends xs i 0 below ∙ rw (s, e) refl;
    }

part-before : {X : Type 0} (xs ys : List X) (start end : ℕ) → start ≤ end → end ≤ length xs → slice_range (xs ++ ys) start end ≡ slice_range xs start end
part-before xs ys start end h k =
    ap (take (end - start)) (drop-append-le start xs ys (omega (arith, h, k)))
    ∙ take-append-le (end - start) (drop start xs) ys (omega (arith, h, k, length-drop start xs))

part-last : {X : Type 0} (xs ys : List X) (start end : ℕ) → start ≡ length xs → end ≡ length xs + length ys → slice_range (xs ++ ys) start end ≡ ys
part-last xs ys start end s e =
    ap (take (end - start)) (drop_at xs ys start (sym s)) ∙ take_all (end - start) ys (omega (arith, s, e))

pub split_at_ends-push : {X : Type 0} (start : ℕ) (ends : List ℕ) (xs ys : List X) (n : ℕ) → ends_ascend_to start ends (length xs) ≡ true → n ≡ length xs + length ys →
    split_at_ends start (ends ++ n ∷ []) (xs ++ ys) ≡ split_at_ends start ends xs ++ ys ∷ []
split_at_ends-push start [] xs ys n h e =
    ap (λ (part : List _). part ∷ []) (part-last xs ys start n (eqb-true start (length xs) h) e)
split_at_ends-push start (end ∷ ends) xs ys n h e =
    let parts = and_parts _ _ h in
    let here = part-before xs ys start end (leb-true start end parts.0) (starts-within end ends (length xs) parts.1) in
    let rest = split_at_ends-push end ends xs ys n parts.1 e in
    rw (here, rest) refl

pub ends_ascend_to-push : (start : ℕ) (ends : List ℕ) (m n : ℕ) → ends_ascend_to start ends m ≡ true → m ≤ n → ends_ascend_to start (ends ++ n ∷ []) n ≡ true
ends_ascend_to-push start [] m n h k =
    let same = eqb-true start m h in and_from _ _ (le-leb start n (omega (arith, same, k))) (eq-eqb n n refl)
ends_ascend_to-push start (end ∷ ends) m n h k = let parts = and_parts _ _ h in and_from _ _ parts.0 (ends_ascend_to-push end ends m n parts.1 k)
