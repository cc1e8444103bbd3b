-- Lists of forms after those of two halves were added.
use Rattle.std.proofs.Common.{◌≡◌, ℕ, suc, ◌/◌, ◌<◌, Bool, true, false, List, [], ◌∷◌, ◌++◌, drop, length, nat_le, take, ◌∙◌, ap, append_assoc, arith}
use Rattle.std.specs.Prelude.{if◌then◌else◌}
use Rattle.std.proofs.lemmas.Bool.Decides.{nat_tests}
use Rattle.ilk_ir.specs.Tree.{Tree}
use Rattle.ilk_plant.specs.Plant.{PlantLists}
use Rattle.ilk_invs.specs.declared.hold_family.TheConstants.{MAX_ORDERED_HOLDERS}
use Rattle.ilk_invs.specs.HoldFamilies.{at_most_one_by_halves, at_most_one_in_order, not_held_by_both_groups}

pub halves_pushed :
    (p : PlantLists) (x n : ℕ) (routes first second : List ℕ) (start one two three : List Tree) →
    MAX_ORDERED_HOLDERS < length routes → first ≡ take (length routes / 2) routes →
    second ≡ drop (length routes / 2) routes → one ≡ start ++ not_held_by_both_groups p x first second ∷ [] →
    two ≡ one ++ at_most_one_by_halves n p x first → three ≡ two ++ at_most_one_by_halves n p x second →
    three ≡ start ++ at_most_one_by_halves (suc n) p x routes
halves_pushed p x n routes first second start one two three many here there a b c = by_size (nat_le (length routes) MAX_ORDERED_HOLDERS) no
  where
    no : nat_le (length routes) MAX_ORDERED_HOLDERS ≡ false
    no = grind (arith, nat_tests)

    joined : three ≡ start ++ (not_held_by_both_groups p x first second ∷ (at_most_one_by_halves n p x first ++ at_most_one_by_halves n p x second))
    joined =
        c ∙ ap (λ ts. ts ++ at_most_one_by_halves n p x second) (b ∙ ap (λ ts. ts ++ at_most_one_by_halves n p x first) a)
        ∙ append_assoc (start ++ not_held_by_both_groups p x first second ∷ []) (at_most_one_by_halves n p x first) (at_most_one_by_halves n p x second)
        ∙ append_assoc start (not_held_by_both_groups p x first second ∷ []) (at_most_one_by_halves n p x first ++ at_most_one_by_halves n p x second)

    halved :
        start ++ (not_held_by_both_groups p x first second ∷ (at_most_one_by_halves n p x first ++ at_most_one_by_halves n p x second))
        ≡ start
        ++
        (not_held_by_both_groups p x (take (length routes / 2) routes) (drop (length routes / 2) routes)
        ∷
        (at_most_one_by_halves n p x (take (length routes / 2) routes)
        ++ at_most_one_by_halves n p x (drop (length routes / 2) routes)))
    halved =
        ap (λ xs. start ++ (not_held_by_both_groups p x xs second ∷ (at_most_one_by_halves n p x xs ++ at_most_one_by_halves n p x second))) here
        ∙ ap (λ xs. start ++ (not_held_by_both_groups p x (take (length routes / 2) routes) xs ∷ (at_most_one_by_halves n p x (take (length routes / 2) routes) ++ at_most_one_by_halves n p x xs))) there

    by_size : (few : Bool) → few ≡ false →
        three
        ≡ start
        ++
        (if few then at_most_one_in_order p x routes
        else not_held_by_both_groups p x (take (length routes / 2) routes)
        (drop (length routes / 2) routes)
        ∷ at_most_one_by_halves n p x (take (length routes / 2) routes)
        ++ at_most_one_by_halves n p x (drop (length routes / 2) routes))
    by_size true e = cc
    by_size false e = joined ∙ halved
