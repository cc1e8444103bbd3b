-- No event depends on the order of the trains of a state without hazard.
use Rattle.std.proofs.Common.{◌≡◌, ℕ, zero, suc, ◌<◌, Bool, true, false, not, ◌&&◌, ◌||◌, IsPermutation, cond, find, length, nat_le, nat_lt, ◌+◌, option_and_then, position, remove, set, slice_get, Option, Some, None, is_some, List, [], ◌∷◌, inl, inr, ◌⊎◌, refl, sym, ◌∙◌, ap, subst}
use Rattle.std.specs.List.{Contains, last_or, list_all, list_any, range_with_len}
use Rattle.std.proofs.lemmas.Bool.{false≢true}
use Rattle.std.proofs.lemmas.List.Sorted.{All-permutation, Contains-permutation, IsPermutation-append_left, IsPermutation-cons, IsPermutation-remove, IsPermutation-sym, IsPermutation-trans, list_any-IsPermutation, sum_by-IsPermutation}
use Rattle.std.proofs.lemmas.List.Quantifiers.{position-Some}
use Rattle.std.proofs.lemmas.Option.{get_or_from_slice_get, same_Some, slice_get-get_or, slice_get_within}
use Rattle.ilk_base.specs.Option.{◌>>=◌, then_some}
use Rattle.ilk_base.proofs.Lists.{item_at, slice_get-set_same}
use Rattle.ilk_base.proofs.Once.{EachOnce}
use Rattle.ilk_base.proofs.Positions.{is_some-position, position-at}
use Rattle.ilk_base.proofs.Tested.{All-tested, list_all-from_All}
use Rattle.ilk_plant.specs.Network.{contains_section}
use Rattle.ilk_plant.specs.Plant.{IsPlant, PlantLists, board_of, inward_direction_if_border, point_number}
use Rattle.ilk_plant.specs.Shape.{has_nonempty_connected_body}
use Rattle.ilk_plant.specs.Sound.{IsAcyclic}
use Rattle.ilk_plant.specs.State.{has_lock_state, is_unlocked_and_vacant, is_occupied, detected_position_in_state}
use Rattle.ilk_plant.specs.declared.network.Section.{Section}
use Rattle.ilk_plant.specs.declared.network.Section.TheVariants.{Linear, Point}
use Rattle.ilk_plant.specs.declared.state.Aspect.TheVariants.{Closed}
use Rattle.ilk_plant.specs.declared.state.Hold.TheVariants.{Free as FreeLock, Locked as LockedLock, Used as UsedLock}
use Rattle.ilk_plant.specs.declared.state.State.{State}
use Rattle.ilk_plant.specs.declared.state.Train.{Train}
use Rattle.ilk_motion.specs.Body.{has_head_at, has_movable_tail_at, is_first_of_several, is_only_section, occupies_only, new_train_on, with_new_head, without_tail}
use Rattle.ilk_motion.specs.Trains.{with_board_closed}
use Rattle.ilk_motion.specs.Ahead.{ahead}
use Rattle.ilk_routes.specs.Modes.{is_allocating_or_locked, same_mode}
use Rattle.ilk_plant.specs.TableRules.{sections_locked_for}
use Rattle.ilk_plant.specs.declared.state.Mode.TheVariants.{Marked, Locked, Occupied}
use Rattle.ilk_model.specs.Event.{next}
use Rattle.ilk_model.specs.Hazard.{is_section_hazardous, is_wrong_under_train, is_wrong_under_body}
use Rattle.ilk_model.specs.declared.event.Event.{Event}
use Rattle.ilk_model.specs.declared.event.Event.TheVariants.{Mark, Allocate, Lock, Sense, Release, Finish, Throw, Settle, Enter, Head, Tail, Leave, Cancel}
use Rattle.ilk_layout.specs.Laws.{DifferInTrainOrder, DifferInTrainOrderIfAny, IsWellFormedAndSafe, EventsIgnoreTrainOrder}
use Rattle.ilk_layout.proofs.Bodies.{last-has}
use Rattle.ilk_layout.proofs.Calm.{alone, no-hazard, none-hazardous}
use Rattle.ilk_layout.proofs.Orders.{Within, kept-at, once-removed, permuted, removed-at, skip, skip-other}
use Rattle.ilk_layout.proofs.Told.{state-once}
use Rattle.ilk_layout.proofs.Trains.{has_x, with_trains}

unseen-bind : {A : Type 0} (o : Option A) (f g : A → Option State) → ((x : A) → DifferInTrainOrderIfAny (f x) (g x)) → DifferInTrainOrderIfAny (option_and_then f o) (option_and_then g o)
unseen-bind None f g each = tt
unseen-bind (Some x) f g each = each x

unseen-if : (b c : Bool) (s t : State) → b ≡ c → DifferInTrainOrder s t → DifferInTrainOrderIfAny (then_some b s) (then_some c t)
unseen-if true true s t e d = d
unseen-if false false s t e d = tt
unseen-if true false s t e d = cc
unseen-if false true s t e d = cc

reordered : (s : State) (ts : List Train) → IsPermutation s.trains ts → DifferInTrainOrder s (with_trains s ts)
reordered s ts order = record { routes = refl; points = refl; boards = refl; locks = refl; trains = order }

within : (xs ys : List Train) → IsPermutation xs ys → Within xs ys
within xs ys order i x at =
    let c : Contains ys x = Contains-permutation xs ys x order (i, slice_get_within xs i x at, get_or_from_slice_get xs i x x at) in
    (c.0, slice_get-get_or ys c.0 x c.1 ∙ ap Some c.2)

without : (xs ys : List Train) (i j : ℕ) (u : Train) → EachOnce xs → EachOnce ys → IsPermutation xs ys → slice_get xs i ≡ Some u → slice_get ys j ≡ Some u → IsPermutation (remove xs i) (remove ys j)
without xs ys i j u once once_too order at also =
    permuted (remove xs i) (remove ys j) (once-removed xs i once) (once-removed ys j once_too) (into xs ys i j once at also (within xs ys order)) (into ys xs j i once_too also at (within ys xs (IsPermutation-sym xs ys order)))
  where
    into : (xs ys : List Train) (i j : ℕ) → EachOnce xs → slice_get xs i ≡ Some u → slice_get ys j ≡ Some u → Within xs ys → Within (remove xs i) (remove ys j)
    into xs ys i j once at also in_ys m x here =
        let was = removed-at xs i m x here in
        let there = in_ys (skip i m) x was in
        kept-at ys j there.0 x there.1 (λ e. skip-other i m (let same : x ≡ u = same_Some x u (sym there.1 ∙ ap (slice_get ys) e ∙ also) in once (skip i m) i u (was ∙ ap Some same) at))

remove-set : (xs : List Train) (i : ℕ) (y : Train) → remove (set xs i y) i ≡ remove xs i
remove-set [] i y = refl
remove-set (x ∷ xs) zero y = refl
remove-set (x ∷ xs) (suc i) y = ap (λ l. x ∷ l) (remove-set xs i y)

replaced : (xs ys : List Train) (i j : ℕ) (u v : Train) → EachOnce xs → EachOnce ys → IsPermutation xs ys → slice_get xs i ≡ Some u → slice_get ys j ≡ Some u → IsPermutation (set xs i v) (set ys j v)
replaced xs ys i j u v once once_too order at also =
    let rest = without xs ys i j u once once_too order at also in
    IsPermutation-trans (set xs i v) (v ∷ remove xs i) (set ys j v) (front xs i u at)
    (IsPermutation-trans (v ∷ remove xs i) (v ∷ remove ys j) (set ys j v)
    (IsPermutation-cons v (remove xs i) (remove ys j) rest)
    (IsPermutation-sym (set ys j v) (v ∷ remove ys j) (front ys j u also)))
  where
    front : (zs : List Train) (k : ℕ) (w : Train) → slice_get zs k ≡ Some w → IsPermutation (set zs k v) (v ∷ remove zs k)
    front zs k w at =
        let there = slice_get-set_same zs k v (slice_get_within zs k w at) in
        let P : List Train → Type 0 = λ l. IsPermutation (set zs k v) (v ∷ l) in
        subst P (remove-set zs k v) (IsPermutation-remove (set zs k v) k v (slice_get_within (set zs k v) k v there) (sym (get_or_from_slice_get (set zs k v) k v v there)))

abbrev FindsSame : (Train → Bool) → List Train → List Train → Type 0
FindsSame test xs ys = ((position test xs ≡ None) × (position test ys ≡ None)) ⊎ ((i j : ℕ) × (u : Train) × (position test xs ≡ Some i) × (slice_get xs i ≡ Some u) × (position test ys ≡ Some j) × (slice_get ys j ≡ Some u))

finds-same : (test : Train → Bool) (xs ys : List Train) → IsPermutation xs ys → ((i j : ℕ) (u v : Train) → slice_get xs i ≡ Some u → slice_get xs j ≡ Some v → test u ≡ true → test v ≡ true → i ≡ j) → FindsSame test xs ys
finds-same test xs ys order one = by_first (position test xs) refl (position test ys) refl
  where
    same-any : is_some (position test xs) ≡ is_some (position test ys)
    same-any = is_some-position test xs ∙ list_any-IsPermutation test xs ys order ∙ sym (is_some-position test ys)

    found : (zs : List Train) (k : ℕ) → position test zs ≡ Some k → (u : Train) × (slice_get zs k ≡ Some u) × (test u ≡ true)
    found zs k e =
        let within_zs = (position-within zs k e) in
        let item = item_at zs k within_zs in
        (item.0, item.1, position-at test zs k item.0 e item.1)
      where
        position-within : (zs : List Train) (k : ℕ) → position test zs ≡ Some k → k < length zs
        position-within [] k e = cc
        position-within (z ∷ zs) k e = (position-Some test (z ∷ zs) k z e).0

    by_first : (o : Option ℕ) → position test xs ≡ o → (q : Option ℕ) → position test ys ≡ q → FindsSame test xs ys
    by_first None e None f = inl (e, f)
    by_first None e (Some j) f = absurd (false≢true (ap is_some (sym e) ∙ same-any ∙ ap is_some f))
    by_first (Some i) e None f = absurd (false≢true (sym (ap is_some (sym e) ∙ same-any ∙ ap is_some f)))
    by_first (Some i) e (Some j) f =
        let u = found xs i e in
        let v = found ys j f in
        let back = within ys xs (IsPermutation-sym xs ys order) j v.0 v.1 in
        let place : back.0 ≡ i = one back.0 i v.0 u.0 back.1 u.1 v.2 u.2 in
        let same : v.0 ≡ u.0 = same_Some v.0 u.0 (sym back.1 ∙ ap (slice_get xs) place ∙ u.1) in
        inr (i, j, u.0, e, u.1, f, v.1 ∙ ap Some same)

head-has : (x : ℕ) (t : Train) → has_head_at x t ≡ true → contains_section x t.body ≡ true
head-has x t h = last-has x t.body h

tail-has : (x : ℕ) (t : Train) → has_movable_tail_at x t ≡ true → contains_section x t.body ≡ true
tail-has x t h = of t.body h
  where
    of : (body : List ℕ) → is_first_of_several x body ≡ true → contains_section x body ≡ true
    of [] h = cc
    of (y ∷ []) h = cc
    of (y ∷ z ∷ rest) h = rw h refl

only-has : (x : ℕ) (t : Train) → occupies_only x t ≡ true → contains_section x t.body ≡ true
only-has x t h = of t.body h
  where
    of : (body : List ℕ) → is_only_section x body ≡ true → contains_section x body ≡ true
    of [] h = cc
    of (y ∷ []) h = rw h refl
    of (y ∷ z ∷ rest) h = cc

closed : (m : Option ℕ) (s t : State) → DifferInTrainOrder s t → DifferInTrainOrder (with_board_closed m s) (with_board_closed m t)
closed None s t d = d
closed (Some m) s t d = record { routes = d.routes; points = d.points; boards = ap (λ bs. set bs m Closed) d.boards; locks = d.locks; trains = d.trains }

module _ (p : PlantLists) (plant : IsPlant p) (never : IsAcyclic p) (s : State) (calm : IsWellFormedAndSafe p s) (ts : List Train) (order : IsPermutation s.trains ts) where
  abbrev t : State
  t = with_trains s ts

  occupied-same : is_occupied t ≡ is_occupied s
  occupied-same i x = list_any-IsPermutation (has_x x) ts s.trains (IsPermutation-sym s.trains ts order) i

  clear-same : is_unlocked_and_vacant t ≡ is_unlocked_and_vacant s
  clear-same i x = has_lock_state s x FreeLock && not (occupied-same i x)

  hazardous-same : is_section_hazardous p t ≡ is_section_hazardous p s
  hazardous-same i x = nat_lt 1 (sum_by-IsPermutation (λ (u : Train). cond (contains_section x u.body) 1 0) s.trains ts order i) || wrong-same x i
    where
      wrong-same : (x : ℕ) → is_wrong_under_train p t x ≡ is_wrong_under_train p s x
      wrong-same x = by_section (slice_get p.sections x) refl
        where
          by_section : (o : Option Section) → slice_get p.sections x ≡ o → is_wrong_under_train p t x ≡ is_wrong_under_train p s x
          by_section None e = rw e refl
          by_section (Some (Linear down up b c)) e = rw e refl
          by_section (Some (Point stem plus minus faces)) e = rw e (list_any-IsPermutation (λ (u : Train). is_wrong_under_body x plus minus (detected_position_in_state p s x) u.body) ts s.trains (IsPermutation-sym s.trains ts order))

  pub still-calm : IsWellFormedAndSafe p t
  still-calm = record {
    shape = record {
      routes = calm.shape.routes;
      points = calm.shape.points;
      boards = calm.shape.boards;
      locks = calm.shape.locks;
      counts = calm.shape.counts;
      bodies = list_all-from_All (has_nonempty_connected_body p) ts (All-permutation (λ u. has_nonempty_connected_body p u ≡ true) s.trains ts order (All-tested (has_nonempty_connected_body p) (λ u. has_nonempty_connected_body p u ≡ true)
          (λ u h. h) s.trains calm.shape.bodies));
    };
    no_hazard = no-hazard p t (ap (λ f. find f (range_with_len 0 (length p.sections))) hazardous-same ∙ none-hazardous p s calm.no_hazard);
  }

  once : EachOnce s.trains
  once = state-once p plant never s calm.shape calm.no_hazard _ (λ x within_x. refl)

  once-too : EachOnce ts
  once-too = state-once p plant never t still-calm.shape still-calm.no_hazard _ (λ x within_x. refl)

  same-train : (x : ℕ) (test : Train → Bool) → ((u : Train) → test u ≡ true → contains_section x u.body ≡ true) → FindsSame test s.trains ts
  same-train x test has = finds-same test s.trains ts order (λ i j u v at also hu hv. alone p plant never s calm.shape calm.no_hazard i j x u v at also (has u hu) (has v hv))

  unseen-found : (x : ℕ) (test : Train → Bool) → ((u : Train) → test u ≡ true → contains_section x u.body ≡ true) →
      (f g : ℕ → Train → Option State) →
      ((i j : ℕ) (u : Train) → slice_get s.trains i ≡ Some u → slice_get ts j ≡ Some u →
      DifferInTrainOrderIfAny (f i u) (g j u))
      → DifferInTrainOrderIfAny (position test s.trains >>= λ i. slice_get s.trains i >>= f i) (position test ts >>= λ j. slice_get ts j >>= g j)
  unseen-found x test has f g each =
      elim (same-train x test has) [
        | inl none ↦ rw (none.0, none.1) tt
        | inr found ↦ rw (found.3, found.5, found.4, found.6) (each found.0 found.1 found.2 found.4 found.6)
      ]

  with-replaced : (i j : ℕ) (u v : Train) → slice_get s.trains i ≡ Some u → slice_get ts j ≡ Some u → DifferInTrainOrder (with_trains s (set s.trains i v)) (with_trains s (set ts j v))
  with-replaced i j u v at also = record { routes = refl; points = refl; boards = refl; locks = refl; trains = replaced s.trains ts i j u v once once-too order at also }

  pub unseen : (event : Event) → DifferInTrainOrderIfAny (next p s event) (next p t event)
  unseen (Mark r) = unseen-bind (slice_get p.routes r) _ _ (λ route. unseen-bind (slice_get s.routes r) _ _ (λ now. unseen-if _ _ _ _ refl (reordered _ ts order)))
  unseen (Allocate r) =
      unseen-bind (slice_get p.routes r) _ _ (λ route. unseen-bind (slice_get s.routes r) _ _ (λ now.
      unseen-if _ _ _ _ (ap (λ f. same_mode now.mode Marked && (not (list_any (is_allocating_or_locked s) route.conflicts) && list_all f (sections_locked_for route))) (sym clear-same)) (reordered _ ts order)))
  unseen (Lock r) = unseen-bind (slice_get p.routes r) _ _ (λ route. unseen-bind (slice_get s.routes r) _ _ (λ now. unseen-if _ _ _ _ refl (reordered _ ts order)))
  unseen (Sense r) =
      unseen-bind (slice_get p.routes r) _ _ (λ route. unseen-bind (slice_get s.routes r) _ _ (λ now. unseen-bind (slice_get route.path now.seen) _ _ (λ x.
      unseen-if _ _ _ _ (ap (λ f. (same_mode now.mode Locked || same_mode now.mode Occupied) && f x && has_lock_state s x LockedLock) (sym occupied-same)) (reordered _ ts order))))
  unseen (Release r) =
      unseen-bind (slice_get p.routes r) _ _ (λ route. unseen-bind (slice_get s.routes r) _ _ (λ now. unseen-bind (slice_get route.path now.rel) _ _ (λ x.
      unseen-if _ _ _ _ (ap (λ f. same_mode now.mode Occupied && nat_le (now.rel + 2) now.seen && not (f x) && has_lock_state s x UsedLock) (sym occupied-same)) (reordered _ ts order))))
  unseen (Finish r) =
      unseen-bind (slice_get p.routes r) _ _ (λ route. unseen-bind (slice_get s.routes r) _ _ (λ now. unseen-bind (last_or None route.path) _ _ (λ x. unseen-if _ _ _ _ refl (reordered _ ts order))))
  unseen (Cancel r) = unseen-bind (slice_get p.routes r) _ _ (λ route. unseen-bind (slice_get s.routes r) _ _ (λ now. unseen-if _ _ _ _ refl (reordered _ ts order)))
  unseen (Throw x) = unseen-bind (point_number p x) _ _ (λ n. unseen-bind (slice_get s.points n) _ _ (λ point. unseen-if _ _ _ _ refl (reordered _ ts order)))
  unseen (Settle x) = unseen-bind (point_number p x) _ _ (λ n. unseen-bind (slice_get s.points n) _ _ (λ point. unseen-if _ _ _ _ refl (reordered _ ts order)))
  unseen (Enter x) =
      unseen-bind (inward_direction_if_border p x) _ _ (λ inward. unseen-if _ _ _ _ (ap (λ f. f x) (sym clear-same))
      (record { routes = refl; points = refl; boards = refl; locks = refl; trains = IsPermutation-append_left (new_train_on x inward ∷ []) s.trains ts order }))
  unseen (Head x) =
      unseen-found x (has_head_at x) (head-has x) _ _ (λ i j u at also. unseen-bind (ahead p s x u.dir) _ _ (λ y.
      unseen-if _ _ _ _ refl (closed (board_of p x u.dir) _ _ (with-replaced i j u (with_new_head y u) at also))))
  unseen (Tail x) = unseen-bind (slice_get p.sections x) _ _ (λ section. unseen-found x (has_movable_tail_at x) (tail-has x) _ _ (λ i j u at also. with-replaced i j u (without_tail u) at also))
  unseen (Leave x) =
      unseen-bind (slice_get p.sections x) _ _ (λ section. unseen-found x (occupies_only x) (only-has x) _ _ (λ i j u at also.
      unseen-if _ _ _ _ refl (record { routes = refl; points = refl; boards = refl; locks = refl; trains = without s.trains ts i j u once once-too order at also })))

pub order-unseen : (p : PlantLists) → IsPlant p → IsAcyclic p → EventsIgnoreTrainOrder p
order-unseen p plant never s t event calm differ =
    let whole : with_trains s t.trains ≡ t = λ i. record { routes = sym differ.routes i; points = sym differ.points i; boards = sym differ.boards i; locks = sym differ.locks i; trains = t.trains } in
    let P : State → Type 0 = λ u. DifferInTrainOrderIfAny (next p s event) (next p u event) in
    subst P whole (unseen p plant never s calm t.trains differ.trains event)
