-- In a state without hazard, the positions of points and the occupancies fit. They determine its
-- trains, in the order of their tails.
use Rattle.std.proofs.Common.{◌≡◌, ℕ, zero, suc, ◌+◌, ◌<◌, Bool, true, false, ◌||◌, ◌==◌, IsPermutation, find, Option, Some, None, List, [], ◌∷◌, length, slice_get, refl, sym, ◌∙◌, ap, subst, arith}
use Rattle.std.specs.List.{range_with_len}
use Rattle.std.proofs.lemmas.Bool.{and_from, eq-eqb, eqb-true, eqb-false, ne_eqb}
use Rattle.std.proofs.lemmas.Option.{same_Some, slice_get_within}
use Rattle.ilk_base.specs.Option.{is_some_and}
use Rattle.ilk_base.proofs.Lists.{item_at}
use Rattle.ilk_base.proofs.Once.{EachOnce}
use Rattle.ilk_base.proofs.Ranges.{range-at, range_within}
use Rattle.ilk_plant.specs.Network.{contains_section}
use Rattle.ilk_plant.specs.NetworkRules.{opposite_direction}
use Rattle.ilk_plant.specs.Plant.{IsPlant, PlantLists}
use Rattle.ilk_plant.specs.Shape.{HasShape, has_nonempty_connected_body}
use Rattle.ilk_plant.specs.Sound.{IsAcyclic}
use Rattle.ilk_plant.specs.State.{detected_position_in_state}
use Rattle.ilk_plant.specs.declared.network.Dir.{Dir}
use Rattle.ilk_plant.specs.declared.state.State.{State}
use Rattle.ilk_plant.specs.declared.state.Train.{Train}
use Rattle.ilk_plant.proofs.InLists.{section-from}
use Rattle.ilk_plant.proofs.Alike.{own_direction}
use Rattle.ilk_model.specs.Hazard.{hazard, is_section_hazardous}
use Rattle.ilk_layout.specs.Decoded.{iterates_until_none, next_body_section, section_ahead_in_body, train_from_tail, trains_from_occupancies}
use Rattle.ilk_layout.specs.Occupancy.{occupancy_or_crash, occupancy_by_train_if_any}
use Rattle.ilk_layout.specs.Wellformed.{has_train_continuing_ahead, has_train_continuing_behind, mutual_section_ahead, occupancy_is_consistent}
use Rattle.ilk_layout.specs.declared.values.Occupancy.{Occupancy}
use Rattle.ilk_layout.specs.declared.values.Occupancy.TheVariants.{Vacant, Taken, Crash}
use Rattle.ilk_layout.proofs.Calm.{alone, body-of, calm-at, joined-in, not_moving, occupancy-in, taken-in}
use Rattle.ilk_layout.proofs.Chains.{IsChain, chain-same, chased}
use Rattle.ilk_layout.proofs.Orders.{Within, filter_map-at, filter_map-of, filter_map-once, permuted}
use Rattle.ilk_layout.proofs.Plants.{body-known, joined-back}
use Rattle.ilk_layout.proofs.Trains.{has_x}
use Rattle.ilk_layout.proofs.Tracks.{IsTaken, tracks}

taken_is : {d e : Dir} {t u h k : Bool} → Taken d t h ≡ Taken e u k → (d ≡ e) × (t ≡ u) × (h ≡ k)
taken_is e = (cc, cc, cc)

pub train-is : (p : PlantLists) (lie : ℕ → _) (occupancy : ℕ → Option Occupancy) (x : ℕ) (u : Train) →
    train_from_tail p lie occupancy x (occupancy x) ≡ Some u →
    (d : Dir) × (head : Bool) × (occupancy x ≡ Some (Taken d true head)) ×
    (record { dir = d; body = x ∷ iterates_until_none (length p.sections) (next_body_section p lie occupancy) x } ≡ u)
train-is p lie occupancy x u e = by_occupancy (occupancy x) refl e
  where
    by_occupancy : (o : Option Occupancy) → occupancy x ≡ o → train_from_tail p lie occupancy x o ≡ Some u →
        (d : Dir) × (head : Bool) × (occupancy x ≡ Some (Taken d true head)) ×
        (record { dir = d; body = x ∷ iterates_until_none (length p.sections) (next_body_section p lie occupancy) x } ≡ u)
    by_occupancy None is e = cc
    by_occupancy (Some Vacant) is e = cc
    by_occupancy (Some Crash) is e = cc
    by_occupancy (Some (Taken d true head)) is e = (d, head, is, same_Some _ u e)
    by_occupancy (Some (Taken d false head)) is e = cc

pub trains-once : (p : PlantLists) (lie : ℕ → _) (occupancy : ℕ → Option Occupancy) → EachOnce (trains_from_occupancies p lie occupancy)
trains-once p lie occupancy =
    filter_map-once (λ x. train_from_tail p lie occupancy x (occupancy x)) (range_with_len 0 (length p.sections)) apart range-once
  where
    first : (x : ℕ) (u : Train) → train_from_tail p lie occupancy x (occupancy x) ≡ Some u → slice_get u.body 0 ≡ Some x
    first x u e = let is = train-is p lie occupancy x u e in ap (λ (t : Train). slice_get t.body 0) (sym is.3)

    apart : (u v : ℕ) (y : Train) → train_from_tail p lie occupancy u (occupancy u) ≡ Some y → train_from_tail p lie occupancy v (occupancy v) ≡ Some y → u ≡ v
    apart u v y e f = same_Some u v (sym (first u y e) ∙ first v y f)

    range-once : EachOnce (range_with_len 0 (length p.sections))
    range-once i j x at also = let one = (range_within (length p.sections) i x at).0 in let two = (range_within (length p.sections) j x also).0 in omega arith

module _ (p : PlantLists) (plant : IsPlant p) (never : IsAcyclic p) (s : State) (shape : HasShape p s)
    (calm : hazard p s ≡ None) (occupancy : ℕ → Option Occupancy)
    (told : (x : ℕ) → x < length p.sections → occupancy x ≡ Some (occupancy_or_crash p s x)) where
  told-in : (i k x : ℕ) (t : Train) → slice_get s.trains i ≡ Some t → slice_get t.body k ≡ Some x → occupancy x ≡ Some (Taken t.dir (k == 0) (k + 1 == length t.body))
  told-in i k x t at here =
      told x (body-known p t k x plant (body-of p plant never s shape calm i t at) here) ∙ ap Some (occupancy-in p plant never s shape calm i k x t at here)

  next-taken : (k : ℕ) (d : Dir) (head : Bool) → has_train_continuing_behind d (Taken d (suc k == 0) head) ≡ true
  next-taken k d head = let no_tail : (suc k == 0) ≡ false = ne_eqb (suc k) 0 (λ e. absurd (omega arith)) in rw (no_tail, own_direction d) refl

  before-taken : (k n : ℕ) (d : Dir) (tail : Bool) → suc k < n → has_train_continuing_ahead d (Taken d tail (k + 1 == n)) ≡ true
  before-taken k n d tail less = let no_head : (k + 1 == n) ≡ false = ne_eqb (k + 1) n (λ e. absurd (omega arith)) in rw (no_head, own_direction d) refl

  head_fits : (i k x : ℕ) (t : Train) → slice_get s.trains i ≡ Some t → slice_get t.body k ≡ Some x
      → ((k + 1 == length t.body) || is_some_and (mutual_section_ahead p (detected_position_in_state p s) x t.dir) (λ y. is_some_and (occupancy y) (has_train_continuing_behind t.dir))) ≡ true
  head_fits i k x t at here = by_head (k + 1 == length t.body) refl
    where
      by_head : (b : Bool) → (k + 1 == length t.body) ≡ b → (b || is_some_and (mutual_section_ahead p (detected_position_in_state p s) x t.dir) (λ y. is_some_and (occupancy y) (has_train_continuing_behind t.dir))) ≡ true
      by_head true e = refl
      by_head false e =
          let within = slice_get_within t.body k x here in
          let more : suc k < length t.body = (let other = eqb-false (k + 1) (length t.body) e in omega arith) in
          let next : (y : ℕ) × (slice_get t.body (suc k) ≡ Some y) = item_at t.body (suc k) more in
          let joined = joined-in p plant never s shape calm i k x next.0 t at here next.1 in
          let there = told-in i (suc k) next.0 t at next.1 in
          rw (joined, there) (next-taken k t.dir (suc k + 1 == length t.body))

  tail_fits : (i k x : ℕ) (t : Train) → slice_get s.trains i ≡ Some t → slice_get t.body k ≡ Some x
      → ((k == 0) || is_some_and (mutual_section_ahead p (detected_position_in_state p s) x (opposite_direction t.dir)) (λ y. is_some_and (occupancy y) (has_train_continuing_ahead t.dir))) ≡ true
  tail_fits i zero x t at here = refl
  tail_fits i (suc k) x t at here =
      let within = slice_get_within t.body (suc k) x here in
      let before : (y : ℕ) × (slice_get t.body k ≡ Some y) = item_at t.body k (omega arith) in
      let joined = joined-back p (detected_position_in_state p s) before.0 x t.dir (joined-in p plant never s shape calm i k before.0 x t at before.1 here) in
      let there = told-in i k before.0 t at before.1 in
      let no_tail : (suc k == 0) ≡ false = ne_eqb (suc k) 0 (λ e. absurd (omega arith)) in
      rw (no_tail, joined, there) (before-taken k (length t.body) t.dir (k == 0) within)

  pub told-fits : (x : ℕ) → x < length p.sections → occupancy_is_consistent p (detected_position_in_state p s) occupancy x (occupancy x) ≡ true
  told-fits x within = let P : Option Occupancy → Type 0 = λ o. occupancy_is_consistent p (detected_position_in_state p s) occupancy x o ≡ true in subst P (sym (told x within)) (by_occupancy (occupancy_or_crash p s x) refl)
    where
      crashed : is_section_hazardous p s x ≡ false → occupancy_or_crash p s x ≡ Crash → ⊥
      crashed safe e = by_found (find (has_x x) s.trains) (rw safe at e)
        where
          by_found : (o : Option Train) → occupancy_by_train_if_any x o ≡ Crash → ⊥
          by_found None f = cc
          by_found (Some t) f = cc

      by_occupancy : (o : Occupancy) → occupancy_or_crash p s x ≡ o → occupancy_is_consistent p (detected_position_in_state p s) occupancy x (Some o) ≡ true
      by_occupancy Vacant e = refl
      by_occupancy Crash e = absurd (crashed (calm-at p s x calm within) e)
      by_occupancy (Taken d tail head) e =
          let at : (i : ℕ) × (t : Train) × (k : ℕ) × (slice_get s.trains i ≡ Some t) × (slice_get t.body k ≡ Some x) = taken-in p plant never s shape calm x d tail head e in
          let i = at.0 in
          let t = at.1 in
          let k = at.2 in
          let same : Taken t.dir (k == 0) (k + 1 == length t.body) ≡ Taken d tail head = sym (occupancy-in p plant never s shape calm i k x t at.3 at.4) ∙ e in
          let P : Occupancy → Type 0 = λ o. occupancy_is_consistent p (detected_position_in_state p s) occupancy x (Some o) ≡ true in
          subst P same (and_from _ _ (and_from _ _ (not_moving p plant never s shape calm i k x t at.3 at.4) (head_fits i k x t at.3 at.4)) (tail_fits i k x t at.3 at.4))

  chain-from : (i k a : ℕ) (t : Train) (rest : List ℕ) → slice_get s.trains i ≡ Some t →
      ((j y : ℕ) → slice_get (a ∷ rest) j ≡ Some y → slice_get t.body (k + j) ≡ Some y) →
      k + length (a ∷ rest) ≡ length t.body → IsChain (next_body_section p (detected_position_in_state p s) occupancy) a rest
  chain-from i k a t [] at part long =
      let here : slice_get t.body k ≡ Some a = (let n : k + 0 ≡ k = omega arith in ap (slice_get t.body) (sym n) ∙ part 0 a refl) in
      let last : (k + 1 == length t.body) ≡ true = eq-eqb (k + 1) (length t.body) (omega arith) in
      ap (section_ahead_in_body p (detected_position_in_state p s) a) (told-in i k a t at here ∙ ap (λ b. Some (Taken t.dir (k == 0) b)) last)
  chain-from i k a t (b ∷ rest) at part long =
      let here : slice_get t.body k ≡ Some a = (let n : k + 0 ≡ k = omega arith in ap (slice_get t.body) (sym n) ∙ part 0 a refl) in
      let next : slice_get t.body (suc k) ≡ Some b = (let n : k + 1 ≡ suc k = omega arith in ap (slice_get t.body) (sym n) ∙ part 1 b refl) in
      let more : (k + 1 == length t.body) ≡ false = ne_eqb (k + 1) (length t.body) (λ e. absurd (omega arith)) in (
        ap (section_ahead_in_body p (detected_position_in_state p s) a) (told-in i k a t at here ∙ ap (λ v. Some (Taken t.dir (k == 0) v)) more) ∙ joined-in p plant never s shape calm i k a b t at here next,
        chain-from i (suc k) b t rest at (λ j y found. (let n : k + suc j ≡ suc k + j = omega arith in ap (slice_get t.body) (sym n) ∙ part (suc j) y found)) (omega arith),
      )

  own-train : (i a : ℕ) (t : Train) (rest : List ℕ) → slice_get s.trains i ≡ Some t → t.body ≡ a ∷ rest → train_from_tail p (detected_position_in_state p s) occupancy a (occupancy a) ≡ Some t
  own-train i a t rest at is =
      let here : slice_get t.body 0 ≡ Some a = ap (λ body. slice_get body 0) is in
      let body = body-of p plant never s shape calm i t at in
      let taken : occupancy a ≡ Some (Taken t.dir true (0 + 1 == length t.body)) = told-in i 0 a t at here in
      let chain : IsChain (next_body_section p (detected_position_in_state p s) occupancy) a rest = chain-from i 0 a t rest at
      (λ j y found.
      (let n : 0 + j ≡ j = omega arith in
      ap (slice_get t.body) n ∙ ap (λ body. slice_get body j) is ∙ found))
      (ap (λ n. n) (let long = ap length is in omega arith)) in
      let whole : IsChain (next_body_section p (detected_position_in_state p s) occupancy) a (iterates_until_none (length p.sections) (next_body_section p (detected_position_in_state p s) occupancy) a) =
      chased (length p.sections) (IsTaken p occupancy) (next_body_section p (detected_position_in_state p s) occupancy) _
      (tracks p plant never (detected_position_in_state p s) occupancy told-fits) a
      (record {
        dir = t.dir;
        tail = true;
        head = 0 + 1 == length t.body;
        within = body-known p t 0 a plant body here;
        is = taken;
      }) in
      let same : iterates_until_none (length p.sections) (next_body_section p (detected_position_in_state p s) occupancy) a ≡ rest = chain-same (next_body_section p (detected_position_in_state p s) occupancy) a _ rest whole chain in
      ap (train_from_tail p (detected_position_in_state p s) occupancy a) taken ∙ ap (λ r. Some (record { dir = t.dir; body = a ∷ r })) same ∙ ap (λ b. Some (record { dir = t.dir; body = b })) (sym is)

  body-begins : (i : ℕ) (t : Train) → slice_get s.trains i ≡ Some t → (a : ℕ) × (rest : List ℕ) × (t.body ≡ a ∷ rest)
  body-begins i t at = begins t.dir t.body (body-of p plant never s shape calm i t at)
    where
      begins : (d : Dir) (body : List ℕ) → has_nonempty_connected_body p (record { dir = d; body = body }) ≡ true → (a : ℕ) × (rest : List ℕ) × (body ≡ a ∷ rest)
      begins d [] h = cc
      begins d (a ∷ rest) h = (a, rest, refl)

  pub state-once : EachOnce s.trains
  state-once i j t at also =
      let begin = body-begins i t at in
      let has : contains_section begin.0 t.body ≡ true = section-from t.body 0 begin.0 (ap (λ body. slice_get body 0) begin.2) in
      alone p plant never s shape calm i j begin.0 t t at also has has

  all-told : Within s.trains (trains_from_occupancies p (detected_position_in_state p s) occupancy)
  all-told i t at =
      let begin = body-begins i t at in
      let a = begin.0 in
      let within = body-known p t 0 a plant (body-of p plant never s shape calm i t at) (ap (λ body. slice_get body 0) begin.2) in
      filter_map-of (λ x. train_from_tail p (detected_position_in_state p s) occupancy x (occupancy x)) (range_with_len 0 (length p.sections)) a a t (range-at (length p.sections) a within) (own-train i a t begin.1 at begin.2)

  all-there : Within (trains_from_occupancies p (detected_position_in_state p s) occupancy) s.trains
  all-there j u at =
      let from = filter_map-at (λ x. train_from_tail p (detected_position_in_state p s) occupancy x (occupancy x)) (range_with_len 0 (length p.sections)) j u at in
      let x = from.1 in
      let place = range_within (length p.sections) from.0 x from.2 in
      let is = train-is p (detected_position_in_state p s) occupancy x u from.3 in
      let tail : occupancy_or_crash p s x ≡ Taken is.0 true is.1 = same_Some _ _ (sym (told x place.1) ∙ is.2) in
      let there : (i : ℕ) × (t : Train) × (k : ℕ) × (slice_get s.trains i ≡ Some t) × (slice_get t.body k ≡ Some x) = taken-in p plant never s shape calm x is.0 true is.1 tail in
      let begin = body-begins there.0 there.1 there.3 in
      let first : there.2 ≡ 0 = eqb-true there.2 0 (taken_is (sym (occupancy-in p plant never s shape calm there.0 there.2 x there.1 there.3 there.4) ∙ tail)).1 in
      let same : begin.0 ≡ x = same_Some begin.0 x (sym (ap (λ body. slice_get body 0) begin.2) ∙ ap (slice_get there.1.body) (sym first) ∙ there.4) in
      let own = own-train there.0 begin.0 there.1 begin.1 there.3 begin.2 in
      let it : there.1 ≡ u = same_Some there.1 u (sym own ∙ ap (λ v. train_from_tail p (detected_position_in_state p s) occupancy v (occupancy v)) same ∙ from.3) in
      (there.0, there.3 ∙ ap Some it)

  pub trains-told : IsPermutation s.trains (trains_from_occupancies p (detected_position_in_state p s) occupancy)
  trains-told = permuted s.trains (trains_from_occupancies p (detected_position_in_state p s) occupancy) state-once (trains-once p (detected_position_in_state p s) occupancy) all-told all-there
