-- The effects of train events: the occupied sections, and the first trains at a section.
use Rattle.std.proofs.Common.{◌≡◌, ℕ, zero, suc, Bool, true, false, ◌||◌, ◌==◌, Some, List, [], ◌∷◌, ◌++◌, set, remove, slice_get, refl, sym, ap, ◌∙◌, subst}
use Rattle.std.specs.List.{list_any}
use Rattle.std.proofs.lemmas.Bool.{and_parts, eqb-true, false_from_ne_true}
use Rattle.std.proofs.lemmas.Option.{same_Some}
use Rattle.ilk_base.proofs.Tested.{list_all-slice_get}
use Rattle.ilk_plant.specs.Network.{contains_section}
use Rattle.ilk_plant.specs.Plant.{PlantLists, next_to}
use Rattle.ilk_plant.specs.Shape.{HasShape, has_nonempty_connected_body, is_connected_chain}
use Rattle.ilk_plant.specs.State.{is_occupied}
use Rattle.ilk_plant.specs.declared.network.Dir.{Dir}
use Rattle.ilk_plant.specs.declared.network.Dir.TheVariants.{Up, Down}
use Rattle.ilk_plant.specs.declared.state.State.{State}
use Rattle.ilk_plant.specs.declared.state.Train.{Train}
use Rattle.ilk_plant.proofs.InLists.{section-behind}
use Rattle.ilk_motion.specs.Body.{has_head_at, has_movable_tail_at, is_first_of_several, is_last_section, is_only_section, occupies_only, new_train_on, with_new_head, without_tail}
use Rattle.ilk_model.proofs.TrainFrames.{IsEntered, IsHeaded, IsLeft, IsTailed}
use Rattle.ilk_strict.proofs.Trains.{enter-vacant, head-vacant, leave-vacant, tail-vacant}
use Rattle.ilk_drive.specs.Awakening.{neighbours_of}
use Rattle.ilk_drive.proofs.Back.{first_dir, first_dir-push, first_dir-remove, first_dir-set}
use Rattle.ilk_drive.proofs.Changes.{apart, true-false}

any-either : (a b c d : Bool) → (a || b) ≡ true → (a ≡ true → c ≡ true) → (b ≡ true → d ≡ true) → (c || d) ≡ true
any-either true b c d h f g = ap (λ (x : Bool). x || d) (f refl)
any-either false b c d h f g = or-second c d (g h)
  where
    or-second : (c d : Bool) → d ≡ true → (c || d) ≡ true
    or-second true d e = refl
    or-second false d e = e

any-set : {X : Type 0} (f : X → Bool) (xs : List X) (i : ℕ) (a b : X) → slice_get xs i ≡ Some a → (f a ≡ true → f b ≡ true) → list_any f xs ≡ true → list_any f (set xs i b) ≡ true
any-set f [] i a b at keeps h = cc
any-set f (x ∷ xs) zero a b at keeps h = any-either (f x) (list_any f xs) (f b) (list_any f xs) h (λ e. keeps (ap f (sym (same_Some _ _ at)) ∙ e)) (λ e. e)
any-set f (x ∷ xs) (suc i) a b at keeps h = any-either (f x) (list_any f xs) (f x) (list_any f (set xs i b)) h (λ e. e) (λ e. any-set f xs i a b at keeps e)

any-push : {X : Type 0} (f : X → Bool) (xs : List X) (b : X) → list_any f xs ≡ true → list_any f (xs ++ b ∷ []) ≡ true
any-push f [] b h = cc
any-push f (x ∷ xs) b h = any-either (f x) (list_any f xs) (f x) (list_any f (xs ++ b ∷ [])) h (λ e. e) (λ e. any-push f xs b e)

any-remove : {X : Type 0} (f : X → Bool) (xs : List X) (i : ℕ) (a : X) → slice_get xs i ≡ Some a → f a ≡ false → list_any f xs ≡ true → list_any f (remove xs i) ≡ true
any-remove f [] i a at none h = cc
any-remove f (x ∷ xs) zero a at none h = any-rest (f x) (list_any f xs) h (ap f (same_Some _ _ at) ∙ none)
  where
    any-rest : (b c : Bool) → (b || c) ≡ true → b ≡ false → c ≡ true
    any-rest true c h e = cc
    any-rest false c h e = h
any-remove f (x ∷ xs) (suc i) a at none h = any-either (f x) (list_any f xs) (f x) (list_any f (remove xs i)) h (λ e. e) (λ e. any-remove f xs i a at none e)

longer-keeps : (z y : ℕ) (body : List ℕ) → contains_section z body ≡ true → contains_section z (body ++ y ∷ []) ≡ true
longer-keeps z y body h = any-push (λ u. u == z) body y h

shorter-keeps : (z x : ℕ) (body : List ℕ) → is_first_of_several x body ≡ true → (z == x) ≡ false → contains_section z body ≡ true → contains_section z (remove body 0) ≡ true
shorter-keeps z x [] several out h = cc
shorter-keeps z x (u ∷ []) several out h = cc
shorter-keeps z x (u ∷ v ∷ rest) several out h = any-remove (λ w. w == z) (u ∷ v ∷ rest) 0 u refl (other-first z x u out several) h
  where
    other-first : (z x u : ℕ) → (z == x) ≡ false → (u == x) ≡ true → (u == z) ≡ false
    other-first z x u out is = false_from_ne_true (u == z) (λ e. apart z x out (sym (eqb-true u z e) ∙ eqb-true u x is))

pub vacant-by : (a b : Bool) → (a ≡ true → b ≡ true) → b ≡ false → a ≡ false
vacant-by a b keeps vacant = false_from_ne_true a (λ e. true-false b (keeps e) vacant)

pub enter-leaves : (p : PlantLists) (s t : State) (x : ℕ) → IsEntered p s t x → (z : ℕ) → is_occupied t z ≡ false → is_occupied s z ≡ false
enter-leaves p s t x it z = vacant-by (is_occupied s z) (is_occupied t z) (λ e.
    ap (λ (trains : List Train). list_any (λ train. contains_section z train.body) trains) it.trains ∙ any-push (λ train. contains_section z train.body) s.trains (new_train_on x it.inward) e)

pub head-leaves : (p : PlantLists) (s t : State) (x : ℕ) → IsHeaded p s t x → (z : ℕ) → is_occupied t z ≡ false → is_occupied s z ≡ false
head-leaves p s t x it z = vacant-by (is_occupied s z) (is_occupied t z) (λ e.
    ap (λ (trains : List Train). list_any (λ train. contains_section z train.body) trains) it.trains ∙ any-set (λ train. contains_section z train.body) s.trains it.i it.train (with_new_head it.y it.train) it.at (longer-keeps z it.y it.train.body) e)

pub tail-leaves : (p : PlantLists) (s t : State) (x : ℕ) → IsTailed p s t x → (z : ℕ) → (z == x) ≡ false → is_occupied t z ≡ false → is_occupied s z ≡ false
tail-leaves p s t x it z out = vacant-by (is_occupied s z) (is_occupied t z) (λ e.
    ap (λ (trains : List Train). list_any (λ train. contains_section z train.body) trains) it.trains ∙ any-set (λ train. contains_section z train.body) s.trains it.i it.train (without_tail it.train) it.at (shorter-keeps z x it.train.body
    it.several out) e)

only-there : (z x : ℕ) (body : List ℕ) → is_only_section x body ≡ true → (z == x) ≡ false → contains_section z body ≡ false
only-there z x [] only out = cc
only-there z x (u ∷ []) only out = ap (λ (b : Bool). b || false) (false_from_ne_true (u == z) (λ e. apart z x out (sym (eqb-true u z e) ∙ eqb-true u x only)))
only-there z x (u ∷ v ∷ rest) only out = cc

pub leave-leaves : (p : PlantLists) (s t : State) (x : ℕ) → IsLeft p s t x → (z : ℕ) → (z == x) ≡ false → is_occupied t z ≡ false → is_occupied s z ≡ false
leave-leaves p s t x it z out = vacant-by (is_occupied s z) (is_occupied t z) (λ e.
    ap (λ (trains : List Train). list_any (λ train. contains_section z train.body) trains) it.trains ∙ any-remove (λ train. contains_section z train.body) s.trains it.i it.train it.at (only-there z x it.train.body it.alone out) e)

occupied-by : (a b : Bool) → (a ≡ false → b ≡ false) → b ≡ true → a ≡ true
occupied-by true b keeps h = refl
occupied-by false b keeps h = true-false b h (keeps refl)

pub enter-was : (p : PlantLists) (s t : State) (x : ℕ) → IsEntered p s t x → (z : ℕ) → (z == x) ≡ false → is_occupied t z ≡ true → is_occupied s z ≡ true
enter-was p s t x it z out = occupied-by (is_occupied s z) (is_occupied t z) (λ e. enter-vacant p s t x it z e (apart z x out))

pub head-was : (p : PlantLists) (s t : State) (x : ℕ) → (it : IsHeaded p s t x) → (z : ℕ) → (z == it.y) ≡ false → is_occupied t z ≡ true → is_occupied s z ≡ true
head-was p s t x it z out = occupied-by (is_occupied s z) (is_occupied t z) (λ e. head-vacant p s t x it z e (apart z it.y out))

pub tail-was : (p : PlantLists) (s t : State) (x : ℕ) → IsTailed p s t x → (z : ℕ) → is_occupied t z ≡ true → is_occupied s z ≡ true
tail-was p s t x it z = occupied-by (is_occupied s z) (is_occupied t z) (λ e. tail-vacant p s t x it z e)

pub leave-was : (p : PlantLists) (s t : State) (x : ℕ) → IsLeft p s t x → (z : ℕ) → is_occupied t z ≡ true → is_occupied s z ≡ true
leave-was p s t x it z = occupied-by (is_occupied s z) (is_occupied t z) (λ e. leave-vacant p s t x it z e)

differs : (u x z : ℕ) → (u == x) ≡ true → (z == x) ≡ false → (u == z) ≡ false
differs u x z is out = false_from_ne_true (u == z) (λ e. apart z x out (sym (eqb-true u z e) ∙ eqb-true u x is))

last-other : (x z : ℕ) (body : List ℕ) → is_last_section x body ≡ true → (z == x) ≡ false → is_last_section z body ≡ false
last-other x z [] last out = cc
last-other x z (u ∷ []) last out = differs u x z last out
last-other x z (u ∷ v ∷ rest) last out = last-other x z (v ∷ rest) last out

last-pushed_is : (z y : ℕ) (body : List ℕ) → is_last_section z (body ++ y ∷ []) ≡ (y == z)
last-pushed_is z y [] = refl
last-pushed_is z y (u ∷ []) = refl
last-pushed_is z y (u ∷ v ∷ rest) = last-pushed_is z y (v ∷ rest)

first-pushed : (x y z : ℕ) (body : List ℕ) → is_last_section x body ≡ true → (z == x) ≡ false → is_first_of_several z (body ++ y ∷ []) ≡ is_first_of_several z body
first-pushed x y z [] last out = cc
first-pushed x y z (u ∷ []) last out = differs u x z last out
first-pushed x y z (u ∷ v ∷ rest) last out = refl

only-pushed : (x y z : ℕ) (body : List ℕ) → is_last_section x body ≡ true → (z == x) ≡ false → is_only_section z (body ++ y ∷ []) ≡ is_only_section z body
only-pushed x y z [] last out = cc
only-pushed x y z (u ∷ []) last out = sym (differs u x z last out)
only-pushed x y z (u ∷ v ∷ rest) last out = refl

flipped : (a b : ℕ) → (a == b) ≡ false → (b == a) ≡ false
flipped a b out = false_from_ne_true (b == a) (λ e. apart a b out (sym (eqb-true b a e)))

module _ (p : PlantLists) (s t : State) (x : ℕ) (it : IsHeaded p s t x) (z : ℕ) (out : (z == x) ≡ false) where
  abbrev moved : Train
  moved = with_new_head it.y it.train

  pub head-heads : (z == it.y) ≡ false → first_dir (has_head_at z) t.trains ≡ first_dir (has_head_at z) s.trains
  head-heads ahead_ =
      let same : has_head_at z moved ≡ has_head_at z it.train = last-pushed_is z it.y it.train.body ∙ flipped z it.y ahead_ ∙ sym (last-other x z it.train.body it.heads out) in
      ap (first_dir (has_head_at z)) it.trains ∙ first_dir-set (has_head_at z) s.trains it.i it.train moved it.at same refl

  pub head-tails : first_dir (has_movable_tail_at z) t.trains ≡ first_dir (has_movable_tail_at z) s.trains
  head-tails = ap (first_dir (has_movable_tail_at z)) it.trains ∙ first_dir-set (has_movable_tail_at z) s.trains it.i it.train moved it.at (first-pushed x it.y z it.train.body it.heads out) refl

  pub head-alone : first_dir (occupies_only z) t.trains ≡ first_dir (occupies_only z) s.trains
  head-alone = ap (first_dir (occupies_only z)) it.trains ∙ first_dir-set (occupies_only z) s.trains it.i it.train moved it.at (only-pushed x it.y z it.train.body it.heads out) refl

last-shorter_is : (x z : ℕ) (body : List ℕ) → is_first_of_several x body ≡ true → is_last_section z (remove body 0) ≡ is_last_section z body
last-shorter_is x z [] several = cc
last-shorter_is x z (u ∷ []) several = cc
last-shorter_is x z (u ∷ v ∷ rest) several = refl

any-joined_left : (z : ℕ) (xs ys : List ℕ) → contains_section z xs ≡ true → contains_section z (xs ++ ys) ≡ true
any-joined_left z [] ys h = cc
any-joined_left z (u ∷ xs) ys h = any-either (u == z) (contains_section z xs) (u == z) (contains_section z (xs ++ ys)) h (λ e. e) (λ e. any-joined_left z xs ys e)

pub next-neighbours_of : (p : PlantLists) (x y : ℕ) (d : Dir) → contains_section y (next_to p x d) ≡ true → contains_section y (neighbours_of p x) ≡ true
next-neighbours_of p x y Down h = any-joined_left y (next_to p x Down) (next_to p x Up) h
next-neighbours_of p x y Up h = section-behind y (next_to p x Down) (next_to p x Up) h

pub not-neighbours_of : (p : PlantLists) (x y z : ℕ) → contains_section y (neighbours_of p x) ≡ true → contains_section z (neighbours_of p x) ≡ false → (y == z) ≡ false
not-neighbours_of p x y z in_ out = false_from_ne_true (y == z) (λ e. true-false (contains_section z (neighbours_of p x)) (subst (λ (v : ℕ). contains_section v (neighbours_of p x) ≡ true) (eqb-true y z e) in_) out)

second-neighbours_of : (p : PlantLists) (d : Dir) (x u v : ℕ) (rest : List ℕ) → is_connected_chain p d u (v ∷ rest) ≡ true → (u == x) ≡ true → contains_section v (neighbours_of p x) ≡ true
second-neighbours_of p d x u v rest on is =
    let here : contains_section v (next_to p u d) ≡ true = (and_parts (contains_section v (next_to p u d)) (is_connected_chain p d v rest) on).0 in
    next-neighbours_of p x v d (subst (λ (w : ℕ). contains_section v (next_to p w d) ≡ true) (eqb-true u x is) here)

first-shorter : (p : PlantLists) (d : Dir) (x z : ℕ) (body : List ℕ) →
    has_nonempty_connected_body p (record { dir = d; body = body }) ≡ true → is_first_of_several x body ≡ true →
    (z == x) ≡ false → contains_section z (neighbours_of p x) ≡ false →
    is_first_of_several z (remove body 0) ≡ is_first_of_several z body
first-shorter p d x z [] made several out off = cc
first-shorter p d x z (u ∷ []) made several out off = cc
first-shorter p d x z (u ∷ v ∷ []) made several out off = sym (differs u x z several out)
first-shorter p d x z (u ∷ v ∷ w ∷ rest) made several out off =
    let on : is_connected_chain p d u (v ∷ w ∷ rest) ≡ true = (and_parts _ (is_connected_chain p d u (v ∷ w ∷ rest)) made).1 in
    not-neighbours_of p x v z (second-neighbours_of p d x u v (w ∷ rest) on several) off ∙ sym (differs u x z several out)

only-shorter : (p : PlantLists) (d : Dir) (x z : ℕ) (body : List ℕ) → has_nonempty_connected_body p (record { dir = d; body = body }) ≡ true → is_first_of_several x body ≡ true → contains_section z (neighbours_of p x) ≡ false
    → is_only_section z (remove body 0) ≡ is_only_section z body
only-shorter p d x z [] made several off = cc
only-shorter p d x z (u ∷ []) made several off = cc
only-shorter p d x z (u ∷ v ∷ []) made several off =
    let on : is_connected_chain p d u (v ∷ []) ≡ true = (and_parts _ (is_connected_chain p d u (v ∷ [])) made).1 in
    not-neighbours_of p x v z (second-neighbours_of p d x u v [] on several) off
only-shorter p d x z (u ∷ v ∷ w ∷ rest) made several off = refl

module _ (p : PlantLists) (s t : State) (shape : HasShape p s) (x : ℕ) (it : IsTailed p s t x) (z : ℕ) where
  made_body : has_nonempty_connected_body p it.train ≡ true
  made_body = list_all-slice_get (has_nonempty_connected_body p) s.trains it.i it.train shape.bodies it.at

  pub tail-heads : first_dir (has_head_at z) t.trains ≡ first_dir (has_head_at z) s.trains
  tail-heads = ap (first_dir (has_head_at z)) it.trains ∙ first_dir-set (has_head_at z) s.trains it.i it.train (without_tail it.train) it.at (last-shorter_is x z it.train.body it.several) refl

  pub tail-tails : (z == x) ≡ false → contains_section z (neighbours_of p x) ≡ false → first_dir (has_movable_tail_at z) t.trains ≡ first_dir (has_movable_tail_at z) s.trains
  tail-tails out off = ap (first_dir (has_movable_tail_at z)) it.trains ∙ first_dir-set (has_movable_tail_at z) s.trains it.i it.train (without_tail it.train) it.at (first-shorter p it.train.dir x z it.train.body made_body it.several out off) refl

  pub tail-alone : contains_section z (neighbours_of p x) ≡ false → first_dir (occupies_only z) t.trains ≡ first_dir (occupies_only z) s.trains
  tail-alone off = ap (first_dir (occupies_only z)) it.trains ∙ first_dir-set (occupies_only z) s.trains it.i it.train (without_tail it.train) it.at (only-shorter p it.train.dir x z it.train.body made_body it.several off) refl

only-last : (x z : ℕ) (body : List ℕ) → is_only_section x body ≡ true → (z == x) ≡ false → is_last_section z body ≡ false
only-last x z [] only out = cc
only-last x z (u ∷ []) only out = differs u x z only out
only-last x z (u ∷ v ∷ rest) only out = cc

only-first : (x z : ℕ) (body : List ℕ) → is_only_section x body ≡ true → is_first_of_several z body ≡ false
only-first x z [] only = cc
only-first x z (u ∷ []) only = refl
only-first x z (u ∷ v ∷ rest) only = cc

only-only : (x z : ℕ) (body : List ℕ) → is_only_section x body ≡ true → (z == x) ≡ false → is_only_section z body ≡ false
only-only x z [] only out = cc
only-only x z (u ∷ []) only out = differs u x z only out
only-only x z (u ∷ v ∷ rest) only out = cc

module _ (p : PlantLists) (s t : State) (x : ℕ) (it : IsLeft p s t x) (z : ℕ) where
  pub leave-heads : (z == x) ≡ false → first_dir (has_head_at z) t.trains ≡ first_dir (has_head_at z) s.trains
  leave-heads out = ap (first_dir (has_head_at z)) it.trains ∙ first_dir-remove (has_head_at z) s.trains it.i it.train it.at (only-last x z it.train.body it.alone out)

  pub leave-tails : first_dir (has_movable_tail_at z) t.trains ≡ first_dir (has_movable_tail_at z) s.trains
  leave-tails = ap (first_dir (has_movable_tail_at z)) it.trains ∙ first_dir-remove (has_movable_tail_at z) s.trains it.i it.train it.at (only-first x z it.train.body it.alone)

  pub leave-alone : (z == x) ≡ false → first_dir (occupies_only z) t.trains ≡ first_dir (occupies_only z) s.trains
  leave-alone out = ap (first_dir (occupies_only z)) it.trains ∙ first_dir-remove (occupies_only z) s.trains it.i it.train it.at (only-only x z it.train.body it.alone out)

module _ (p : PlantLists) (s t : State) (x : ℕ) (it : IsEntered p s t x) (z : ℕ) where
  pub enter-heads : (z == x) ≡ false → first_dir (has_head_at z) t.trains ≡ first_dir (has_head_at z) s.trains
  enter-heads out = ap (first_dir (has_head_at z)) it.trains ∙ first_dir-push (has_head_at z) s.trains (new_train_on x it.inward) (flipped z x out)

  pub enter-tails : first_dir (has_movable_tail_at z) t.trains ≡ first_dir (has_movable_tail_at z) s.trains
  enter-tails = ap (first_dir (has_movable_tail_at z)) it.trains ∙ first_dir-push (has_movable_tail_at z) s.trains (new_train_on x it.inward) refl

  pub enter-alone : (z == x) ≡ false → first_dir (occupies_only z) t.trains ≡ first_dir (occupies_only z) s.trains
  enter-alone out = ap (first_dir (occupies_only z)) it.trains ∙ first_dir-push (occupies_only z) s.trains (new_train_on x it.inward) (flipped z x out)
