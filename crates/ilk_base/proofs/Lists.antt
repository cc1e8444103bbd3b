-- Items of lists: at an index, after a write, and of joined lists.
use Rattle.std.proofs.Common.{Bool, true, add-one, ◌≡◌, ℕ, List, [], ◌∷◌, ◌++◌, ◌+◌, ◌-◌, length, arith, slice_get, set, Some, None, refl, ap, zero, suc, inl, inr, ◌⊎◌, sym, ◌∙◌, map, ◌<◌, Option, take, get_or, replicate, drop, drop-cons}
use Rattle.std.proofs.lemmas.List.{get_or-replicate, length-replicate, set-get_or, drop_more, take_more}
use Rattle.std.proofs.lemmas.Option.{get_or_from_slice_get, slice_get_within, same_Some}
use Rattle.std.proofs.Math.Seq.{take-append_seam}
use Rattle.std.specs.List.{last_or, find}
use Rattle.std.proofs.lemmas.Bool.{cases_Bool}

pub set_same : {X : Type 0} (xs : List X) (i : ℕ) (x : X) → slice_get xs i ≡ Some x → set xs i x ≡ xs
set_same xs i x at = ap (set xs i) (sym (get_or_from_slice_get xs i x x at)) ∙ set-get_or xs i x

pub slice_get_set : {X : Type 0} (xs : List X) (i j : ℕ) (y z : X) → slice_get (set xs i y) j ≡ Some z → ((i ≡ j) × (y ≡ z)) ⊎ (slice_get xs j ≡ Some z)
slice_get_set [] i j y z e = inr e
slice_get_set (x ∷ xs) zero zero y z e = inl (refl, cc)
slice_get_set (x ∷ xs) zero (suc j) y z e = inr e
slice_get_set (x ∷ xs) (suc i) zero y z e = inr e
slice_get_set (x ∷ xs) (suc i) (suc j) y z e =
    elim (slice_get_set xs i j y z e) [ inl h ↦ inl (ap suc h.0, h.1) | inr h ↦ inr h ]

-- Places of items in two joined lists.
pub at-before : {X : Type 0} (xs ys : List X) (k : ℕ) (x : X) → slice_get xs k ≡ Some x → slice_get (xs ++ ys) k ≡ Some x
at-before [] ys k x e = cc
at-before (y ∷ xs) ys zero x e = e
at-before (y ∷ xs) ys (suc k) x e = at-before xs ys k x e

pub at-past : {X : Type 0} (xs ys : List X) (k : ℕ) (x : X) → slice_get ys k ≡ Some x → slice_get (xs ++ ys) (length xs + k) ≡ Some x
at-past [] ys k x e = ap (slice_get ys) (omega arith) ∙ e
at-past (y ∷ xs) ys k x e =
    let n : length (y ∷ xs) + k ≡ suc (length xs + k) = omega arith in
    ap (slice_get (y ∷ xs ++ ys)) n ∙ at-past xs ys k x e

pub at-either : {X : Type 0} (xs ys : List X) (j : ℕ) (x : X) → slice_get (xs ++ ys) j ≡ Some x → ((k : ℕ) × (slice_get xs k ≡ Some x)) ⊎ ((k : ℕ) × (slice_get ys k ≡ Some x))
at-either [] ys j x e = inr (j, e)
at-either (y ∷ xs) ys zero x e = inl (zero, e)
at-either (y ∷ xs) ys (suc j) x e =
    elim (at-either xs ys j x e) [ inl h ↦ inl (suc h.0, h.1) | inr h ↦ inr h ]

pub take-at : {X : Type 0} (xs : List X) (i j : ℕ) (x : X) → i < j → slice_get xs i ≡ Some x → slice_get (take j xs) i ≡ Some x
take-at [] i j x h e = cc
take-at (y ∷ xs) i zero x h e = absurd (omega arith)
take-at (y ∷ xs) zero (suc j) x h e = e
take-at (y ∷ xs) (suc i) (suc j) x h e = take-at xs i j x (omega arith) e

pub map-none : {X Y : Type 0} (f : X → Y) (xs : List X) → map f xs ≡ [] → xs ≡ []
map-none f [] e = refl
map-none f (x ∷ xs) e = cc

pub append-none : {X : Type 0} (xs ys : List X) → xs ++ ys ≡ [] → (xs ≡ []) × (ys ≡ [])
append-none [] ys e = (refl, e)
append-none (x ∷ xs) ys e = cc

-- An item of the mapped list is the image of the item at that place.
pub map-at : {X Y : Type 0} (f : X → Y) (xs : List X) (k : ℕ) (y : Y) → slice_get (map f xs) k ≡ Some y → (x : X) × (slice_get xs k ≡ Some x) × (f x ≡ y)
map-at f [] k y e = cc
map-at f (x ∷ xs) zero y e = (x, refl, cc)
map-at f (x ∷ xs) (suc k) y e = map-at f xs k y e

pub last_or-at : {X : Type 0} (o : Option X) (xs : List X) (i : ℕ) (x : X) → i + 1 ≡ length xs → slice_get xs i ≡ Some x → last_or o xs ≡ Some x
last_or-at o [] i x n e = absurd (omega (arith, n))
last_or-at o (y ∷ []) zero x n e = e
last_or-at o (y ∷ []) (suc i) x n e = absurd (omega (arith, n))
last_or-at o (y ∷ z ∷ ys) zero x n e = absurd (omega (arith, n))
last_or-at o (y ∷ z ∷ ys) (suc i) x n e = last_or-at (Some y) (z ∷ ys) i x (omega (arith, n)) e

pub slice_get-set_same : {X : Type 0} (xs : List X) (i : ℕ) (y : X) → i < length xs → slice_get (set xs i y) i ≡ Some y
slice_get-set_same [] i y h = absurd (omega (arith, h))
slice_get-set_same (x ∷ xs) zero y h = refl
slice_get-set_same (x ∷ xs) (suc i) y h = slice_get-set_same xs i y (omega (arith, h))

pub slice_get-set_other : {X : Type 0} (xs : List X) (i j : ℕ) (y : X) → (i ≡ j → ⊥) → slice_get (set xs i y) j ≡ slice_get xs j
slice_get-set_other [] i j y apart = refl
slice_get-set_other (x ∷ xs) zero zero y apart = absurd (apart refl)
slice_get-set_other (x ∷ xs) zero (suc j) y apart = refl
slice_get-set_other (x ∷ xs) (suc i) zero y apart = refl
slice_get-set_other (x ∷ xs) (suc i) (suc j) y apart = slice_get-set_other xs i j y (λ e. apart (ap suc e))

-- Lists are equal if they agree at each index.
pub same_by_slice_get : {X : Type 0} (xs ys : List X) → ((i : ℕ) → slice_get xs i ≡ slice_get ys i) → xs ≡ ys
same_by_slice_get [] [] same = refl
same_by_slice_get [] (y ∷ ys) same = let none = same 0 in cc
same_by_slice_get (x ∷ xs) [] same = let none = same 0 in cc
same_by_slice_get (x ∷ xs) (y ∷ ys) same =
    let first : x ≡ y = same_Some x y (same 0) in
    let rest : xs ≡ ys = same_by_slice_get xs ys (λ i. same (suc i)) in
    cc

pub copied : {X : Type 0} (n i : ℕ) (x y : X) → slice_get (replicate n x) i ≡ Some y → x ≡ y
copied n i x y at =
    let within = slice_get_within (replicate n x) i y at in
    let long = length-replicate n x in
    sym (get_or-replicate n i x y (omega arith)) ∙ get_or_from_slice_get (replicate n x) i y y at

pub item_at : {X : Type 0} (xs : List X) (i : ℕ) → i < length xs → (x : X) × (slice_get xs i ≡ Some x)
item_at [] i within = absurd (omega arith)
item_at (x ∷ xs) zero within = (x, refl)
item_at (x ∷ xs) (suc i) within = item_at xs i (omega arith)

pub replicate-at : {X : Type 0} (n i : ℕ) (x : X) → i < n → slice_get (replicate n x) i ≡ Some x
replicate-at n i x less =
    let long = length-replicate n x in
    let found = item_at (replicate n x) i (omega arith) in
    found.1 ∙ ap Some (sym (copied n i x found.0 found.1))

pub list-ext : {A : Type 0} (d : A) (xs ys : List A) → length xs ≡ length ys → ((i : ℕ) → i < length xs → get_or xs i d ≡ get_or ys i d) → xs ≡ ys
list-ext d [] [] n e = refl
list-ext d [] (y ∷ ys) n e = absurd (omega (arith, n))
list-ext d (x ∷ xs) [] n e = absurd (omega (arith, n))
list-ext d (x ∷ xs) (y ∷ ys) n e =
    let h : x ≡ y = e 0 (omega arith) in
    let t : xs ≡ ys = list-ext d xs ys (omega (arith, n)) (λ i l. e (suc i) (omega arith)) in
    ap (λ z. z ∷ xs) h ∙ ap (λ zs. y ∷ zs) t

pub find-only : {A : Type 0} (p : A → Bool) (xs : List A) (x : A) (i : ℕ) → slice_get xs i ≡ Some x → p x ≡ true → ((y : A) → p y ≡ true → y ≡ x) → find p xs ≡ Some x
find-only p [] x i s h u = absurd (cc)
find-only p (y ∷ ys) x zero s h u =
    let e : y ≡ x = cc in
    let q : p y ≡ true = ap p e ∙ h in
    rw q (ap Some e)
find-only p (y ∷ ys) x (suc i) s h u =
    elim (cases_Bool (p y)) [
      | inl q ↦ rw q (ap Some (u y q))
      | inr q ↦ rw q (find-only p ys x i s h u)
    ]

pub drop_at : {X : Type 0} (xs : List X) (i : ℕ) (x : X) → i < length xs → x ≡ get_or xs i x → drop i xs ≡ x ∷ drop (i + 1) xs
drop_at {X} xs i x h e =
    drop-cons xs i x h ∙ ap (λ (y : X). y ∷ drop (suc i) xs) (sym e) ∙ ap (λ (n : ℕ). x ∷ drop n xs) (sym (add-one i))

pub slice_get-push_cases : {A : Type 0} (xs : List A) (y x : A) (i : ℕ) → slice_get (xs ++ y ∷ []) i ≡ Some x → (slice_get xs i ≡ Some x) ⊎ ((i ≡ length xs) × (y ≡ x))
slice_get-push_cases [] y x zero h = inr (refl, cc)
slice_get-push_cases [] y x (suc i) h = absurd (cc)
slice_get-push_cases (a ∷ xs) y x zero h = inl h
slice_get-push_cases (a ∷ xs) y x (suc i) h =
    elim (slice_get-push_cases xs y x i h) [ inl p ↦ inl p | inr p ↦ inr (ap suc p.0, p.1) ]

pub drop-mapped : {A B : Type 0} (f : A → B) (xs : List A) (rest : List B) → drop (length xs) (map f xs ++ rest) ≡ rest
drop-mapped f [] rest = refl
drop-mapped f (x ∷ xs) rest = drop-mapped f xs rest

pub all-written : {X : Type 0} (n : ℕ) (xs ys : List X) → length xs ≡ n → take n (xs ++ drop (length xs) ys) ≡ xs
all-written n xs ys e = ap (λ k. take k (xs ++ drop (length xs) ys)) (sym e) ∙ take-append_seam xs (drop (length xs) ys)

pub drop_from : {X : Type 0} (xs : List X) (i : ℕ) (x : X) → slice_get xs i ≡ Some x → drop i xs ≡ x ∷ drop (i + 1) xs
drop_from xs i x h = drop_more xs i x (slice_get_within xs i x h) ∙ ap (λ (y : _). y ∷ drop (i + 1) xs) (get_or_from_slice_get xs i x x h)

pub get-taken : {X : Type 0} (xs : List X) (m i : ℕ) → i < m → slice_get (take m xs) i ≡ slice_get xs i
get-taken xs zero i h = absurd (omega arith)
get-taken [] (suc m) i h = refl
get-taken (x ∷ xs) (suc m) zero h = refl
get-taken (x ∷ xs) (suc m) (suc i) h = get-taken xs m i (omega arith)

pub get-dropped : {X : Type 0} (xs : List X) (m i : ℕ) → slice_get (drop m xs) i ≡ slice_get xs (m + i)
get-dropped xs zero i = let e : i ≡ 0 + i = omega arith in ap (slice_get xs) e
get-dropped [] (suc m) i = let e : suc m + i ≡ suc (m + i) = omega arith in sym (ap (slice_get []) e)
get-dropped (x ∷ xs) (suc m) i =
    let e : suc m + i ≡ suc (m + i) = omega arith in
    get-dropped xs m i ∙ sym (ap (slice_get (x ∷ xs)) e)

pub taken-before : {X : Type 0} (n : ℕ) (xs : List X) (k : ℕ) (x : X) → slice_get (take n xs) k ≡ Some x → (k < n) × (slice_get xs k ≡ Some x)
taken-before zero [] k x at = cc
taken-before zero (y ∷ xs) k x at = cc
taken-before (suc n) [] k x at = cc
taken-before (suc n) (y ∷ xs) zero x at = (omega arith, at)
taken-before (suc n) (y ∷ xs) (suc k) x at =
    let rest = taken-before n xs k x at in
    let less = rest.0 in
    (omega (arith, less), rest.1)

pub last-some : {X : Type 0} (x : X) (xs : List X) → (y : X) × (last_or (Some x) xs ≡ Some y)
last-some x [] = (x, refl)
last-some x (z ∷ xs) = last-some z xs

pub last_item : {X : Type 0} (xs : List X) → last_or None xs ≡ slice_get xs (length xs - 1)
last_item [] = refl
last_item {X} (x ∷ xs) =
    let found : (y : X) × (slice_get (x ∷ xs) (length (x ∷ xs) - 1) ≡ Some y) = item_at (x ∷ xs) (length (x ∷ xs) - 1) (omega arith) in
    last_or-at None (x ∷ xs) (length (x ∷ xs) - 1) found.0 (omega arith) found.1 ∙ sym found.1

pub take-next : {X : Type 0} (xs : List X) (i : ℕ) (x : X) → slice_get xs i ≡ Some x → take (i + 1) xs ≡ take i xs ++ x ∷ []
take-next xs i x at = take_more xs i x (slice_get_within xs i x at) ∙ ap (λ y. take i xs ++ y ∷ []) (get_or_from_slice_get xs i x x at)
