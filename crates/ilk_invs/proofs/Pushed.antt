use Rattle.std.proofs.Common.{◌≡◌, ℕ, ◌+◌, ◌<◌, All, Bool, cond, Some, List, [], ◌∷◌, ◌++◌, filter, get_or, map, slice_get, refl, sym, ◌∙◌, ap, append_assoc, arith}
use Rattle.std.specs.List.{flat_map, range_with_len}
use Rattle.std.proofs.lemmas.List.{map-append}
use Rattle.std.proofs.lemmas.List.Elements.{filter-append}
use Rattle.std.proofs.lemmas.Option.{slice_get-get_or}
use Rattle.ilk_base.proofs.Ranges.{filter_one, grows_all, passing_within, range-more}
use Rattle.ilk_ir.specs.Form.{tree_of}
use Rattle.ilk_ir.specs.Tree.{Tree}
use Rattle.ilk_ir.specs.declared.form.Form.{Form}
use Rattle.ilk_plant.specs.Plant.{PlantLists}
use Rattle.ilk_plant.specs.declared.table.Route.{Route}
use Rattle.ilk_invs.specs.Parts.{conditions_for_optional_value}

pub form_pushed : (start next : List Form) (form : Form) (t : Tree) → next ≡ start ++ form ∷ [] → tree_of form ≡ t → map tree_of next ≡ map tree_of start ++ t ∷ []
form_pushed start next form t grown is =
    ap (map tree_of) grown ∙ map-append tree_of start (form ∷ []) ∙ ap (λ u. map tree_of start ++ u ∷ []) is

pub three_forms_pushed :
    (start one two three : List Form) (first second third : Form) (t u v : Tree) →
    one ≡ start ++ first ∷ [] → two ≡ one ++ second ∷ [] → three ≡ two ++ third ∷ [] →
    tree_of first ≡ t → tree_of second ≡ u → tree_of third ≡ v →
    map tree_of three ≡ map tree_of start ++ t ∷ u ∷ v ∷ []
three_forms_pushed start one two three first second third t u v a b c is_t is_u is_v =
    form_pushed two three third v c is_v
    ∙ ap (λ ts. ts ++ v ∷ []) (form_pushed one two second u b is_u ∙ ap (λ ts. ts ++ u ∷ []) (form_pushed start one first t a is_t))
    ∙ append_assoc (map tree_of start ++ t ∷ []) (u ∷ []) (v ∷ [])
    ∙ append_assoc (map tree_of start) (t ∷ []) (u ∷ v ∷ [])

pub one_form_more : (f : ℕ → Tree) (n : ℕ) (start : List Tree) (now next : List Form) (form : Form) →
    map tree_of now ≡ start ++ map f (range_with_len 0 n) → next ≡ now ++ form ∷ [] → tree_of form ≡ f n →
    map tree_of next ≡ start ++ map f (range_with_len 0 (n + 1))
one_form_more f n start now next form sofar grown is =
    ap (map tree_of) grown ∙ map-append tree_of now (form ∷ []) ∙ ap (λ ts. ts ++ tree_of form ∷ []) sofar
    ∙ ap (λ t. (start ++ map f (range_with_len 0 n)) ++ t ∷ []) is
    ∙ append_assoc start (map f (range_with_len 0 n)) (f n ∷ [])
    ∙ ap (λ ts. start ++ ts) (sym (ap (map f) (range-more n) ∙ map-append f (range_with_len 0 n) (n ∷ [])))

pub route_more :
    (p : PlantLists) (f : ℕ → Route → List Tree) (r : ℕ) (route : Route) (start now next : List Tree) →
    slice_get p.routes r ≡ Some route →
    now ≡ start ++ flat_map (λ q. conditions_for_optional_value (slice_get p.routes q) (f q)) (range_with_len 0 r) →
    next ≡ now ++ f r route →
    next ≡ start ++ flat_map (λ q. conditions_for_optional_value (slice_get p.routes q) (f q)) (range_with_len 0 (r + 1))
route_more p f r route start now next at sofar grown =
    grows_all (λ q. conditions_for_optional_value (slice_get p.routes q) (f q)) r start now next sofar (grown ∙ ap (λ ts. now ++ ts) (sym (ap (λ o. conditions_for_optional_value o (f r)) at)))

pub route_form_more :
    (p : PlantLists) (f : ℕ → Route → Tree) (r : ℕ) (route : Route) (start : List Tree) (now next : List Form)
    (form : Form) →
    slice_get p.routes r ≡ Some route →
    map tree_of now
    ≡ start
    ++ flat_map (λ q. conditions_for_optional_value (slice_get p.routes q) (λ route. f q route ∷ []))
    (range_with_len 0 r) →
    next ≡ now ++ form ∷ [] → tree_of form ≡ f r route →
    map tree_of next
    ≡ start
    ++ flat_map (λ q. conditions_for_optional_value (slice_get p.routes q) (λ route. f q route ∷ []))
    (range_with_len 0 (r + 1))
route_form_more p f r route start now next form at sofar grown is =
    route_more p (λ q route. f q route ∷ []) r route start (map tree_of now) (map tree_of next) at sofar (ap (map tree_of) grown ∙ map-append tree_of now (form ∷ []) ∙ ap (λ t. map tree_of now ++ t ∷ []) is)

pub passing_more : (test : ℕ → Bool) (n : ℕ) (b : Bool) (now next : List ℕ) → b ≡ test n → now ≡ filter test (range_with_len 0 n) → next ≡ now ++ cond b (n ∷ []) [] → next ≡ filter test (range_with_len 0 (n + 1))
passing_more test n b now next tested sofar grown =
    grown ∙ ap (λ xs. xs ++ cond b (n ∷ []) []) sofar ∙ ap (λ t. filter test (range_with_len 0 n) ++ cond t (n ∷ []) []) tested
    ∙ sym (ap (filter test) (range-more n) ∙ filter-append test (range_with_len 0 n) (n ∷ []) ∙ ap (λ xs. filter test (range_with_len 0 n) ++ xs) (filter_one test n (test n) refl))

pub all_passing : (test : ℕ → Bool) (n : ℕ) (xs : List ℕ) → xs ≡ filter test (range_with_len 0 n) → All (λ r. r < n) xs
all_passing test n xs is i d within =
    let at : slice_get (filter test (range_with_len 0 n)) i ≡ Some (get_or xs i d) = ap (λ l. slice_get l i) (sym is) ∙ slice_get-get_or xs i d within in
    let below = passing_within test 0 n i (get_or xs i d) at in
    omega (arith, below)

pub three_pushed : (f : ℕ → Tree) (start one two three first : List Tree) (xs ys : List ℕ) → one ≡ start ++ first → two ≡ one ++ map f xs → three ≡ two ++ map f ys → three ≡ start ++ (first ++ map f (xs ++ ys))
three_pushed f start one two three first xs ys a b c =
    c ∙ ap (λ ts. ts ++ map f ys) (b ∙ ap (λ ts. ts ++ map f xs) a)
    ∙ append_assoc (start ++ first) (map f xs) (map f ys) ∙ ap (λ ts. (start ++ first) ++ ts) (sym (map-append f xs ys))
    ∙ append_assoc start first (map f (xs ++ ys))
