-- Point numbers of the first sections, extended by one section.
use Rattle.std.proofs.Common.{◌≡◌, ℕ, zero, suc, cond, refl, ◌+◌, ◌<◌, Bool, true, false, Option, Some, None, IfSome, List, [], ◌∷◌, ◌++◌, count_by, get_or, length, map, slice_get, take, sym, ap, ◌∙◌, arith}
use Rattle.std.specs.List.{range_with_len}
use Rattle.std.proofs.lemmas.List.FromFn.{length-map-range_with_len, map-range_with_len_more}
use Rattle.std.proofs.lemmas.List.Sums.{count_by_more_no, count_by_more_yes, sum_by-cons}
use Rattle.std.proofs.lemmas.Option.{cond_some, option_and_then_some, same_Some, slice_get-get_or, slice_get-map}
use Rattle.ilk_base.specs.Option.{◌>>=◌, then_some}
use Rattle.ilk_plant.specs.Network.{is_point}
use Rattle.ilk_plant.specs.Plant.{PlantLists, point_count, point_number}
use Rattle.ilk_plant.specs.Kept.{point_number_per_section}
use Rattle.ilk_plant.specs.declared.network.Section.{Section}
use Rattle.ilk_base.proofs.Options.{IfSome-from, bind_some}
use Rattle.ilk_base.proofs.Ranges.{range-at}
use Rattle.ilk_base.proofs.Tested.{count_by-take-lt}

module _ (p : PlantLists) (x : ℕ) (d : Section) (within : x < length p.sections)
    (numbers new : List (Option ℕ)) (points : ℕ)
    (so_far : numbers ≡ map (point_number p) (range_with_len 0 x))
    (count : points ≡ count_by is_point (take x p.sections)) where
  here : (b : Bool) → is_point (get_or p.sections x d) ≡ b → point_number p x ≡ then_some b (count_by is_point (take x p.sections))
  here b e =
      ap (λ (o : Option Section). o >>= (λ section. then_some (is_point section) (count_by is_point (take x p.sections)))) (slice_get-get_or p.sections x d within)
      ∙ ap (λ c. then_some c (count_by is_point (take x p.sections))) e

  with : (number : Option ℕ) → number ≡ point_number p x → new ≡ numbers ++ number ∷ [] → new ≡ map (point_number p) (range_with_len 0 (x + 1))
  with number same now =
      now ∙ ap (λ l. l ++ number ∷ []) so_far ∙ ap (λ o. map (point_number p) (range_with_len 0 x) ++ o ∷ []) same
      ∙ sym (map-range_with_len_more (point_number p) 0 x x (omega arith))

  pub point_more : is_point (get_or p.sections x d) ≡ true → new ≡ numbers ++ Some points ∷ [] → (new ≡ map (point_number p) (range_with_len 0 (x + 1))) × (points + 1 ≡ count_by is_point (take (x + 1) p.sections))
  point_more e now =
      (with (Some points) (ap Some count ∙ sym (here true e)) now, ap (λ n. n + 1) count ∙ sym (count_by_more_yes is_point p.sections x d within e))

  pub point_same : is_point (get_or p.sections x d) ≡ false → new ≡ numbers ++ None ∷ [] → (new ≡ map (point_number p) (range_with_len 0 (x + 1))) × (points ≡ count_by is_point (take (x + 1) p.sections))
  point_same e now = (with None (sym (here false e)) now, count ∙ sym (count_by_more_no is_point p.sections x d within e))

point_number_per_section-at : (p : PlantLists) (x : ℕ) → x < length p.sections → slice_get (point_number_per_section p) x ≡ Some (point_number p x)
point_number_per_section-at p x within =
    slice_get-map (point_number p) (range_with_len 0 (length p.sections)) x ∙ ap (λ (o : Option ℕ). o >>= (λ y. Some (point_number p y))) (range-at (length p.sections) x within)

pub length-point_number_per_section : (p : PlantLists) → length (point_number_per_section p) ≡ length p.sections
length-point_number_per_section p = length-map-range_with_len (point_number p) 0 (length p.sections)

pub indexed-number : (p : PlantLists) (numbers : List (Option ℕ)) (x : ℕ) (number : Option ℕ) → numbers ≡ point_number_per_section p → x < length p.sections → slice_get numbers x ≡ Some number → number ≡ point_number p x
indexed-number p numbers x number index within at =
    same_Some number (point_number p x) (sym at ∙ ap (λ l. slice_get l x) index ∙ point_number_per_section-at p x within)

pub point_number-below : (p : PlantLists) (x : ℕ) → IfSome (point_number p x) (λ n. n < point_count p)
point_number-below p x = IfSome-from (point_number p x) (λ n. n < point_count p) below
  where
    below : (n : ℕ) → point_number p x ≡ Some n → n < point_count p
    below n e =
        option_and_then_some (λ section. then_some (is_point section) (count_by is_point (take x p.sections))) (slice_get p.sections x) n e (λ section at e1.
        let numbered = cond_some (is_point section) (count_by is_point (take x p.sections)) n e1 in
        let less = count_by-take-lt is_point p.sections x section at numbered.0 in
        omega (arith, less, numbered.1))

same-count : (xs : List Section) (i j : ℕ) (a b : Section) → slice_get xs i ≡ Some a → slice_get xs j ≡ Some b → is_point a ≡ true → is_point b ≡ true → count_by is_point (take i xs) ≡ count_by is_point (take j xs) → i ≡ j
same-count [] i j a b at also pa pb e = cc
same-count (z ∷ xs) zero zero a b at also pa pb e = refl
same-count (z ∷ xs) zero (suc j) a b at also pa pb e =
    let first : ◌≡◌ {A = ℕ} (cond (is_point z) 1 0) 1 = ap (λ v. cond v 1 0) (ap is_point (same_Some z a at) ∙ pa) in
    let step = sum_by-cons (λ v. cond (is_point v) 1 0) z (take j xs) in
    absurd (omega (arith, first, step, e))
same-count (z ∷ xs) (suc i) zero a b at also pa pb e =
    let first : ◌≡◌ {A = ℕ} (cond (is_point z) 1 0) 1 = ap (λ v. cond v 1 0) (ap is_point (same_Some z b also) ∙ pb) in
    let step = sum_by-cons (λ v. cond (is_point v) 1 0) z (take i xs) in
    absurd (omega (arith, first, step, e))
same-count (z ∷ xs) (suc i) (suc j) a b at also pa pb e =
    let one = sum_by-cons (λ v. cond (is_point v) 1 0) z (take i xs) in
    let two = sum_by-cons (λ v. cond (is_point v) 1 0) z (take j xs) in
    ap suc (same-count xs i j a b at also pa pb (omega (arith, one, two, e)))

pub numbered-section : (p : PlantLists) (x n : ℕ) → point_number p x ≡ Some n → (section : Section) × (slice_get p.sections x ≡ Some section) × (is_point section ≡ true) × (count_by is_point (take x p.sections) ≡ n)
numbered-section p x n e =
    let section = bind_some (slice_get p.sections x) _ n e in
    let is = cond_some (is_point section.0) (count_by is_point (take x p.sections)) n section.2 in
    (section.0, section.1, is.0, is.1)

pub number-once : (p : PlantLists) (x y n : ℕ) → point_number p x ≡ Some n → point_number p y ≡ Some n → x ≡ y
number-once p x y n e f =
    let a = numbered-section p x n e in
    let b = numbered-section p y n f in
    same-count p.sections x y a.0 b.0 a.1 b.1 a.2 b.2 (a.3 ∙ sym b.3)
