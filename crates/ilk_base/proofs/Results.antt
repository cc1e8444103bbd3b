-- Facts about results and consecutive steps.
use Rattle.std.proofs.Common.{◌≡◌, ℕ, ◌+◌, List, [], ◌∷◌, ◌++◌, Result, Ok, Err, refl, ap, sym, append_assoc}
use Rattle.ilk_base.specs.Result.{◌>>=◌, try_map_numbered}

pub ok_is : {A E : Type 0} {x y : A} → ◌≡◌ {A = Result A E} (Ok x) (Ok y) → x ≡ y
ok_is e = cc

pub err_is : {A E : Type 0} {x y : E} → ◌≡◌ {A = Result A E} (Err x) (Err y) → x ≡ y
err_is e = cc

pub ok_no_err : {A E P : Type 0} {x : A} {y : E} → ◌≡◌ {A = Result A E} (Ok x) (Err y) → P
ok_no_err e = cc

pub bind_ok : {A B E : Type 0} (r : Result A E) (f : A → Result B E) (y : B) → (r >>= f) ≡ Ok y → (x : A) × (r ≡ Ok x) × (f x ≡ Ok y)
bind_ok (Ok x) f y e = (x, refl, e)
bind_ok (Err fault) f y e = cc

pub bind-assoc : {A B C E : Type 0} (r : Result A E) (f : A → Result B E) (g : B → Result C E) → ((r >>= f) >>= g) ≡ (r >>= (λ x. f x >>= g))
bind-assoc (Ok x) f g = refl
bind-assoc (Err fault) f g = refl

-- A list or fault with items before it.
abbrev pub with_front : {A E : Type 0} → List A → Result (List A) E → Result (List A) E
with_front front (Ok rest) = Ok (front ++ rest)
with_front front (Err fault) = Err fault

pub with_front-step : {A E : Type 0} (front : List A) (x : A) (r : Result (List A) E) → with_front front (r >>= λ rest. Ok (x ∷ rest)) ≡ with_front (front ++ x ∷ []) r
with_front-step front x (Ok rest) = ap Ok (sym (append_assoc front (x ∷ []) rest))
with_front-step front x (Err fault) = refl

-- The next item's result joins the front.
pub try_map_numbered-more :
    {X A E : Type 0} (one : ℕ → X → Result A E) (front : List A) (xs rest : List X) (i : ℕ) (x : X) (y : A) →
    xs ≡ x ∷ rest → one i x ≡ Ok y →
    with_front front (try_map_numbered one i xs) ≡ with_front (front ++ y ∷ []) (try_map_numbered one (i + 1) rest)
try_map_numbered-more one front xs rest i x y split e = rw split (rw e (with_front-step front y (try_map_numbered one (i + 1) rest)))
