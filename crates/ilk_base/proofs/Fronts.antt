-- Optional lists with items before them.
use Rattle.ilk_base.specs.Option.{◌>>=◌}
use Rattle.std.proofs.Common.{◌≡◌, List, [], ◌∷◌, ◌++◌, Option, Some, None, refl, ap, sym, append_assoc}

abbrev pub after_front : {A : Type 0} → List A → Option (List A) → Option (List A)
after_front front (Some rest) = Some (front ++ rest)
after_front front None = None

pub after_front-step : {A : Type 0} (front : List A) (x : A) (o : Option (List A)) → after_front front (o >>= λ rest. Some (x ∷ rest)) ≡ after_front (front ++ x ∷ []) o
after_front-step front x (Some rest) = ap Some (sym (append_assoc front (x ∷ []) rest))
after_front-step front x None = refl
