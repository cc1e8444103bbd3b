-- Lists of forms and of rules after additions.
use Rattle.std.proofs.Common.{◌≡◌, ℕ, suc, ◌+◌, ◌<◌, Some, None, Option, List, [], ◌∷◌, ◌++◌, get_or, length, map, slice_get, take, refl, sym, ◌∙◌, ap, arith, append_assoc}
use Rattle.std.specs.List.{flat_map, range_with_len}
use Rattle.std.specs.Option.{option_to_list}
use Rattle.std.proofs.lemmas.Grind.{flat_map-append}
use Rattle.std.proofs.lemmas.List.{flat_map_more, map-append, take_more}
use Rattle.ilk_base.proofs.Ranges.{range-suc}
use Rattle.ilk_ir.specs.Form.{tree_of}
use Rattle.ilk_ir.specs.Tree.{Tree}
use Rattle.ilk_ir.specs.declared.form.Form.{Form}
use Rattle.ilk_plant.specs.Network.{neighbours_on}
use Rattle.ilk_plant.specs.Plant.{PlantLists, next_to}
use Rattle.ilk_plant.specs.declared.network.Dir.{Dir}
use Rattle.ilk_plant.specs.declared.network.Dir.TheVariants.{Up, Down}
use Rattle.ilk_plant.specs.declared.network.Section.{Section}
use Rattle.ilk_plant.specs.declared.network.Section.TheVariants.{Linear, Point}

pub pushed_form : (f : ℕ → Tree) (k n : ℕ) (now next : List Form) (form : Form) → map tree_of now ≡ map f (range_with_len k n) → next ≡ now ++ form ∷ [] → tree_of form ≡ f (k + n) → map tree_of next ≡ map f (range_with_len k (n + 1))
pushed_form f k n now next form sofar grown is =
    ap (map tree_of) grown ∙ map-append tree_of now (form ∷ []) ∙ ap (λ ts. ts ++ tree_of form ∷ []) sofar ∙ ap (λ t. map f (range_with_len k n) ++ t ∷ []) is
    ∙ sym (ap (map f) (ap (range_with_len k) one ∙ range-suc k n) ∙ map-append f (range_with_len k n) ((k + n) ∷ []))
  where
    one : n + 1 ≡ suc n
    one = omega arith

pub made_more :
    {E R : Type 0} (made : E → List R) (things : List E) (n : ℕ) (d : E) (start now next : List R) →
    n < length things → now ≡ start ++ flat_map made (take n things) →
    next ≡ now ++ made (get_or things n d) → next ≡ start ++ flat_map made (take (n + 1) things)
made_more made things n d start now next within sofar grown =
    grown ∙ ap (λ rs. rs ++ made (get_or things n d)) sofar ∙ flat_map_more made start (take n things) (get_or things n d)
    ∙ ap (λ es. start ++ flat_map made es) (sym (take_more things n d within))

pub made_next : {E R : Type 0} (made : E → List R) (before these after : List E) (now next : List R) → after ≡ before ++ these → now ≡ flat_map made before → next ≡ now ++ flat_map made these → next ≡ flat_map made after
made_next made before these after now next is sofar grown =
    grown ∙ ap (λ rs. rs ++ flat_map made these) sofar ∙ sym (ap (flat_map made) is ∙ flat_map-append made before these)

pub two_beside : (section : Section) (d : Dir) → neighbours_on section d ≡ option_to_list (slice_get (neighbours_on section d) 0) ++ option_to_list (slice_get (neighbours_on section d) 1)
two_beside (Linear None up b c) Down = refl
two_beside (Linear (Some y) up b c) Down = refl
two_beside (Linear down None b c) Up = refl
two_beside (Linear down (Some y) b c) Up = refl
two_beside (Point stem plus minus Up) Up = refl
two_beside (Point stem plus minus Up) Down = refl
two_beside (Point stem plus minus Down) Up = refl
two_beside (Point stem plus minus Down) Down = refl

pub two_next : (p : PlantLists) (x : ℕ) (d : Dir) → next_to p x d ≡ option_to_list (slice_get (next_to p x d) 0) ++ option_to_list (slice_get (next_to p x d) 1)
two_next p x d = by_section (slice_get p.sections x) refl
  where
    by_section : (o : Option Section) → slice_get p.sections x ≡ o → next_to p x d ≡ option_to_list (slice_get (next_to p x d) 0) ++ option_to_list (slice_get (next_to p x d) 1)
    by_section None e = rw e refl
    by_section (Some section) e = rw e (two_beside section d)

pub two_pushed : {R : Type 0} (f : ℕ → List R) (p : PlantLists) (x : ℕ) (d : Dir) (start one two : List R) →
    one ≡ start ++ flat_map f (option_to_list (slice_get (next_to p x d) 0)) →
    two ≡ one ++ flat_map f (option_to_list (slice_get (next_to p x d) 1)) →
    two ≡ start ++ flat_map f (next_to p x d)
two_pushed f p x d start one two first second =
    second ∙ ap (λ rs. rs ++ flat_map f (option_to_list (slice_get (next_to p x d) 1))) first
    ∙ append_assoc start (flat_map f (option_to_list (slice_get (next_to p x d) 0))) (flat_map f (option_to_list (slice_get (next_to p x d) 1)))
    ∙ ap (λ rs. start ++ rs) (sym (flat_map-append f (option_to_list (slice_get (next_to p x d) 0)) (option_to_list (slice_get (next_to p x d) 1))) ∙ ap (flat_map f) (sym (two_next p x d)))
