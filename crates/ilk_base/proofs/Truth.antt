-- Tests joined by and, or and not.
use Rattle.std.proofs.Common.{◌≡◌, Bool, true, false, refl, ◌&&◌, ◌||◌, ◌⊎◌, inl, inr, sym, not}
use Rattle.std.specs.Prelude.{if◌then◌else◌}

pub either : (a b : Bool) → (a || b) ≡ true → (a ≡ true) ⊎ (b ≡ true)
either true b h = inl refl
either false b h = inr h

pub right : (a b c : Bool) → b ≡ true → c ≡ true → (a || (b && c)) ≡ true
right true b c h e = refl
right false b c h e = rw (h, e) refl

pub or-true : (b : Bool) → (b || true) ≡ true
or-true true = refl
or-true false = refl

pub same_truth : (a b : Bool) → (a ≡ true → b ≡ true) → (b ≡ true → a ≡ true) → a ≡ b
same_truth true b there back = sym (there refl)
same_truth false true there back = back refl
same_truth false false there back = refl

pub fails : (b : Bool) → not b ≡ true → b ≡ false
fails true e = cc
fails false e = refl

pub if-passes : (a b : Bool) → (if a then b else true) ≡ true → a ≡ true → b ≡ true
if-passes true b h e = h
if-passes false b h e = cc

pub passes-if : (a b : Bool) → (a ≡ true → b ≡ true) → (if a then b else true) ≡ true
passes-if true b f = f refl
passes-if false b f = refl
