-- Facts about options.
use Rattle.ilk_base.specs.Option.{is_some_and}
use Rattle.std.proofs.Common.{◌≡◌, Option, Some, None, IfSome, refl, Bool, true, false, is_some, option_map}
use Rattle.std.specs.Option.{option_and_then, option_or}
use Rattle.std.proofs.lemmas.Option.{same_Some}
use Rattle.std.proofs.lemmas.Bool.{false≢true}

pub IfSome-from : {A : Type 0} (o : Option A) (P : A → Type 0) → ((y : A) → o ≡ Some y → P y) → IfSome o P
IfSome-from None P f = tt
IfSome-from (Some y) P f = f y refl

pub some-and : {A : Type 0} (o : Option A) (test : A → Bool) → is_some_and o test ≡ true → (z : A) × (o ≡ Some z) × (test z ≡ true)
some-and None test h = cc
some-and (Some z) test h = (z, refl, h)

pub mapped-Some : {A B : Type 0} (f : A → B) (o : Option A) (y : B) → option_map f o ≡ Some y → (x : A) × (o ≡ Some x) × (f x ≡ y)
mapped-Some f None y e = cc
mapped-Some f (Some x) y e = (x, refl, same_Some _ _ e)

pub mapped-None : {A B : Type 0} (f : A → B) (o : Option A) → option_map f o ≡ None → o ≡ None
mapped-None f None e = refl
mapped-None f (Some x) e = cc

pub bind_some : {A B : Type 0} (o : Option A) (f : A → Option B) (y : B) → option_and_then f o ≡ Some y → (x : A) × (o ≡ Some x) × (f x ≡ Some y)
bind_some None f y e = cc
bind_some (Some x) f y e = (x, refl, e)

pub none-of : {A : Type 0} (o : Option A) → is_some o ≡ false → o ≡ None
none-of None e = refl
none-of (Some x) e = cc

pub or_cases : {A : Type 0} (P : Type 0) (a b : Option A) (x : A) → option_or a b ≡ Some x → (a ≡ Some x → P) → (b ≡ Some x → P) → P
or_cases P None b x e left right = right e
or_cases P (Some y) b x e left right = left e

pub some-is : {A : Type 0} (o : Option A) → is_some o ≡ true → (x : A) × (o ≡ Some x)
some-is None e = absurd (false≢true e)
some-is (Some x) e = (x, refl)

pub option_or-none : {A : Type 0} (o : Option A) → option_or o None ≡ o
option_or-none None = refl
option_or-none (Some x) = refl
