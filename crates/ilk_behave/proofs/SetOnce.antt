-- Settings that set no variable twice.
use Rattle.std.proofs.Common.{◌≡◌, ℕ, suc, true, false, ◌==◌, Some, List, [], ◌∷◌, ◌++◌, map, slice_get, refl, arith}
use Rattle.std.specs.List.{flat_map, list_any}
use Rattle.std.proofs.lemmas.Bool.{ne_eqb}
use Rattle.ilk_ir.specs.System.{sets_distinct_vars}
use Rattle.ilk_ir.specs.declared.system.Setting.{Setting}

abbrev pub SetElsewhere : ℕ → List Setting → Type 0
SetElsewhere v [] = Unit {0}
SetElsewhere v (s ∷ ss) = (s.var ≡ v → ⊥) × SetElsewhere v ss

abbrev pub SetOnce : List Setting → Type 0
SetOnce [] = Unit {0}
SetOnce (s ∷ ss) = SetElsewhere s.var ss × SetOnce ss

none-sets : (v : ℕ) (ss : List Setting) → SetElsewhere v ss → list_any (λ other. other.var == v) ss ≡ false
none-sets v [] h = refl
none-sets v (s ∷ ss) h =
    let nay : (s.var == v) ≡ false = ne_eqb s.var v h.0 in rw nay (none-sets v ss h.1)

pub set_once-apart : (ss : List Setting) → SetOnce ss → sets_distinct_vars ss ≡ true
set_once-apart [] h = refl
set_once-apart (s ∷ ss) h = let none = none-sets s.var ss h.0 in rw none (set_once-apart ss h.1)

pub elsewhere-append : (v : ℕ) (xs ys : List Setting) → SetElsewhere v xs → SetElsewhere v ys → SetElsewhere v (xs ++ ys)
elsewhere-append v [] ys h k = k
elsewhere-append v (x ∷ xs) ys h k = (h.0, elsewhere-append v xs ys h.1 k)

pub once-append : (xs ys : List Setting) → SetOnce xs → SetOnce ys → ((i : ℕ) (s : Setting) → slice_get xs i ≡ Some s → SetElsewhere s.var ys) → SetOnce (xs ++ ys)
once-append [] ys h k cross = k
once-append (x ∷ xs) ys h k cross =
    (elsewhere-append x.var xs ys h.0 (cross 0 x refl), once-append xs ys h.1 k (λ i s at. cross (suc i) s at))

pub elsewhere-map : {X : Type 0} (v : ℕ) (f : X → Setting) (xs : List X) → ((i : ℕ) (x : X) → slice_get xs i ≡ Some x → (f x).var ≡ v → ⊥) → SetElsewhere v (map f xs)
elsewhere-map v f [] other = tt
elsewhere-map v f (x ∷ xs) other = (other 0 x refl, elsewhere-map v f xs (λ i y at. other (suc i) y at))

pub once-map : {X : Type 0} (f : X → Setting) (xs : List X) → ((i j : ℕ) (x y : X) → slice_get xs i ≡ Some x → slice_get xs j ≡ Some y → (f y).var ≡ (f x).var → i ≡ j) → SetOnce (map f xs)
once-map f [] apart = tt
once-map f (x ∷ xs) apart =
    (elsewhere-map (f x).var f xs (λ j y at same. (let place = apart 0 (suc j) x y refl at same in omega (arith, place))), once-map f xs (λ i j y z at also same. (let place = apart (suc i) (suc j) y z at also same in omega (arith, place))))

pub elsewhere-flat_map : {X : Type 0} (v : ℕ) (f : X → List Setting) (xs : List X) → ((i : ℕ) (x : X) → slice_get xs i ≡ Some x → SetElsewhere v (f x)) → SetElsewhere v (flat_map f xs)
elsewhere-flat_map v f [] other = tt
elsewhere-flat_map v f (x ∷ xs) other =
    elsewhere-append v (f x) (flat_map f xs) (other 0 x refl) (elsewhere-flat_map v f xs (λ i y at. other (suc i) y at))

pub once-flat_map : {X : Type 0} (f : X → List Setting) (xs : List X) →
    ((i : ℕ) (x : X) → slice_get xs i ≡ Some x → SetOnce (f x)) →
    ((i j : ℕ) (x y : X) (k : ℕ) (s : Setting) → (i ≡ j → ⊥) → slice_get xs i ≡ Some x →
    slice_get xs j ≡ Some y → slice_get (f x) k ≡ Some s → SetElsewhere s.var (f y)) →
    SetOnce (flat_map f xs)
once-flat_map f [] each cross = tt
once-flat_map f (x ∷ xs) each cross =
    once-append (f x) (flat_map f xs) (each 0 x refl)
    (once-flat_map f xs (λ i y at. each (suc i) y at)
    (λ i j y z k s apart at also set. cross (suc i) (suc j) y z k s
    (λ same. apart (omega (arith, same))) at also set))
    (λ k s set. elsewhere-flat_map s.var f xs
    (λ j y at. cross 0 (suc j) x y k s (λ same. (omega (arith, same))) refl at set))
