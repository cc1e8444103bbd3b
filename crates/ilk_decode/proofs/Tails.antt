-- Trains that are found section by section are in ascending order of their tails.
use Rattle.std.proofs.Common.{◌≡◌, ℕ, ◌+◌, Bool, true, false, filter, filter_map, get_or, Option, Some, None, List, [], ◌∷◌, length, slice_get, refl, sym, ap, subst, arith}
use Rattle.std.specs.List.{range_with_len}
use Rattle.std.specs.List.Sorted.{IsStrictlyIncreasing}
use Rattle.std.proofs.lemmas.List.FromFn.{get_or-range_with_len, length-range_with_len}
use Rattle.std.proofs.lemmas.List.Kept.{IsStrictlyIncreasing-filter}
use Rattle.ilk_plant.specs.Plant.{PlantLists}
use Rattle.ilk_plant.specs.declared.state.State.{State}
use Rattle.ilk_layout.specs.declared.values.Occupancy.{Occupancy}
use Rattle.ilk_layout.specs.declared.values.Occupancy.TheVariants.{Vacant, Taken, Crash}
use Rattle.ilk_decode.specs.Order.{AreSortedByTail, tail_sections}
use Rattle.ilk_decode.specs.Read.{train_with_tail, trains_by_tails}

has_tail : Option Occupancy → Bool
has_tail None = false
has_tail (Some Vacant) = false
has_tail (Some Crash) = false
has_tail (Some (Taken d tail head)) = tail

range-rises : (n : ℕ) → IsStrictlyIncreasing (range_with_len 0 n)
range-rises n k within =
    let long = length-range_with_len 0 n in
    let here : get_or (range_with_len 0 n) k 0 ≡ 0 + k = get_or-range_with_len 0 n k 0 (omega arith) in
    let next : get_or (range_with_len 0 n) (k + 1) 0 ≡ 0 + (k + 1) = get_or-range_with_len 0 n (k + 1) 0 (omega arith) in
    omega (arith, here, next)

module _ (p : PlantLists) (s : State) (occupancies : List Occupancy) where
  tails-are : (xs : List ℕ) → tail_sections (filter_map (train_with_tail p s occupancies) xs) ≡ filter (λ x. has_tail (slice_get occupancies x)) xs
  unfolding has_tail
  tails-are [] = refl
  tails-are (x ∷ xs) = by_occupancy (slice_get occupancies x) refl (tails-are xs)
    where
      by_occupancy : (o : Option Occupancy) → slice_get occupancies x ≡ o →
          tail_sections (filter_map (train_with_tail p s occupancies) xs)
          ≡ filter (λ x. has_tail (slice_get occupancies x)) xs →
          tail_sections (filter_map (train_with_tail p s occupancies) (x ∷ xs))
          ≡ filter (λ x. has_tail (slice_get occupancies x)) (x ∷ xs)
      by_occupancy None at rest = rw at rest
      by_occupancy (Some Vacant) at rest = rw at rest
      by_occupancy (Some Crash) at rest = rw at rest
      by_occupancy (Some (Taken d false head)) at rest = rw at rest
      by_occupancy (Some (Taken d true head)) at rest = rw at (ap (λ tails. x ∷ tails) rest)

  pub by-tails : AreSortedByTail (trains_by_tails p s occupancies)
  by-tails =
      subst IsStrictlyIncreasing (sym (tails-are (range_with_len 0 (length p.sections)))) (IsStrictlyIncreasing-filter (λ x. has_tail (slice_get occupancies x)) (range_with_len 0 (length p.sections)) (range-rises (length p.sections)))
