-- The last state of a run, and its hazard or broken family.
use Rattle.std.proofs.Common.{◌≡◌, ℕ, ◌+◌, ◌<◌, Bool, true, false, not, ◌&&◌, Option, Some, None, List, [], ◌∷◌, drop, get_or, length, refl, sym, ap, ◌∙◌}
use Rattle.std.specs.Prelude.{find, is_some, is_none, slice_get, unwrap_or, ◌-◌}
use Rattle.std.specs.List.{range_with_len}
use Rattle.std.proofs.lemmas.Bool.{false≢true}
use Rattle.std.proofs.lemmas.List.{drop_more}
use Rattle.ilk_base.proofs.Truth.{fails}
use Rattle.ilk_base.specs.Option.{◌>>=◌, is_some_and, then_some}
use Rattle.ilk_base.proofs.Options.{some-and}
use Rattle.ilk_plant.specs.Plant.{PlantLists}
use Rattle.ilk_plant.specs.Start.{start}
use Rattle.ilk_plant.specs.declared.state.State.{State}
use Rattle.ilk_model.specs.Event.{next}
use Rattle.ilk_model.specs.Families.{meets_v1_consistent_counts, meets_v2_sections_held_once, meets_v3_locks_match_routes, meets_v4_allocating_paths_vacant, meets_v5_open_needs_locked, meets_v6_points_match_modes, meets_v7_heads_have_routes, meets_v8_bodies_have_routes, meets_v9_protecting_boards_closed}
use Rattle.ilk_model.specs.Hazard.{hazard}
use Rattle.ilk_model.specs.Meets.{meets_all_families, first_broken_family}
use Rattle.ilk_model.specs.Run.{run}
use Rattle.ilk_model.specs.declared.event.Event.{Event}
use Rattle.ilk_queries.specs.Asked.{ends_in_breach, ends_in_hazard}

pub run-next : (p : PlantLists) (s : State) (event : Event) (rest : List Event) (whole : Option State) → is_some whole ≡ true → run p s (event ∷ rest) ≡ whole → run p (unwrap_or (next p s event) s) rest ≡ whole
run-next p s event rest whole some is = by_safe (is_none (hazard p s)) refl
  where
    by_next : (o : Option State) → is_some (o >>= (λ t. run p t rest)) ≡ true → run p (unwrap_or o s) rest ≡ (o >>= (λ t. run p t rest))
    by_next None there = absurd (false≢true there)
    by_next (Some t) there = refl

    by_safe : (b : Bool) → is_none (hazard p s) ≡ b → run p (unwrap_or (next p s event) s) rest ≡ whole
    by_safe true safe =
        let free : run p s (event ∷ rest) ≡ (next p s event >>= (λ t. run p t rest)) = ap (λ b. (then_some b s >>= (λ safe. next p safe event)) >>= (λ t. run p t rest)) safe in
        let there : is_some (next p s event >>= (λ t. run p t rest)) ≡ true = ap is_some (sym free ∙ is) ∙ some in
        by_next (next p s event) there ∙ sym free ∙ is
    by_safe false unsafe =
        let stuck : run p s (event ∷ rest) ≡ None = ap (λ b. (then_some b s >>= (λ safe. next p safe event)) >>= (λ t. run p t rest)) unsafe in
        absurd (false≢true (ap is_some (sym stuck ∙ is) ∙ some))

pub hazard-run : (p : PlantLists) (s : State) (events : List Event) → ends_in_hazard p s events ≡ true → is_some (run p s events) ≡ true
hazard-run p s events ends = let found = some-and (run p s events) (λ t. is_some (hazard p t)) ends in ap is_some found.1

pub breach-run : (p : PlantLists) (s : State) (events : List Event) → ends_in_breach p s events ≡ true → is_some (run p s events) ≡ true
breach-run p s events ends = let found = some-and (run p s events) (λ t. is_none (hazard p t) && not (meets_all_families p t)) ends in ap is_some found.1

nine : (a b c d e f g h i : Bool) → (a && (b && (c && (d && (e && (f && (g && (h && (i && true))))))))) ≡ false
    → is_some (find (λ j. not (is_some_and (slice_get (a ∷ b ∷ c ∷ d ∷ e ∷ f ∷ g ∷ h ∷ i ∷ []) (j - 1)) (λ x. x))) (range_with_len 1 9)) ≡ true
nine false b c d e f g h i fails = refl
nine true false c d e f g h i fails = refl
nine true true false d e f g h i fails = refl
nine true true true false e f g h i fails = refl
nine true true true true false f g h i fails = refl
nine true true true true true false g h i fails = refl
nine true true true true true true false h i fails = refl
nine true true true true true true true false i fails = refl
nine true true true true true true true true false fails = refl
nine true true true true true true true true true fails = absurd (false≢true (sym fails))

least-some : (p : PlantLists) (t : State) → meets_all_families p t ≡ false → is_some (first_broken_family p t) ≡ true
least-some p t broken = nine (meets_v1_consistent_counts p t) (meets_v2_sections_held_once p t) (meets_v3_locks_match_routes p t) (meets_v4_allocating_paths_vacant p t) (meets_v5_open_needs_locked p t) (meets_v6_points_match_modes p t)
    (meets_v7_heads_have_routes p t) (meets_v8_bodies_have_routes p t) (meets_v9_protecting_boards_closed p t) broken

pub run-begins : (p : PlantLists) (s : State) (items events : List Event) → s ≡ start p → items ≡ events → run p s (drop 0 items) ≡ run p (start p) events
run-begins p s items events at same = ap (λ (u : State). run p u items) at ∙ ap (run p (start p)) same

pub run-goes :
    (p : PlantLists) (s t : State) (items : List Event) (i : ℕ) (d : Event) (whole : Option State) →
    i < length items → is_some whole ≡ true → t ≡ unwrap_or (next p s (get_or items i d)) s →
    run p s (drop i items) ≡ whole → run p t (drop (i + 1) items) ≡ whole
run-goes p s t items i d whole within some goes rest =
    ap (λ (u : State). run p u (drop (i + 1) items)) goes
    ∙ run-next p s (get_or items i d) (drop (i + 1) items) whole some (ap (run p s) (sym (drop_more items i d within)) ∙ rest)

pub run-done : (p : PlantLists) (s : State) (items : List Event) (i : ℕ) (whole : Option State) → drop i items ≡ [] → run p s (drop i items) ≡ whole → whole ≡ Some s
run-done p s items i whole none rest = sym rest ∙ ap (run p s) none
