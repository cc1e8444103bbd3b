use Rattle.std.proofs.Common.{◌≡◌, ◌+◌, ℕ, zero, suc, inl, inr, Bool, true, false, not, ◌&&◌, cond, List, [], ◌∷◌, ◌++◌, length, refl, sym, ap, ◌∙◌, subst, Option, Some, append_assoc}
use Rattle.std.specs.List.{filter}
use Rattle.std.specs.Prelude.{slice_get}
use Rattle.std.proofs.lemmas.Bool.{and_parts, and_from, or_cases, or_left, or_right, cases_Bool, not-true, not_from_false, true≢false}
use Rattle.std.proofs.lemmas.List.{append-nil}
use Rattle.std.proofs.lemmas.Option.{same_Some}
use Rattle.ilk_base.specs.Option.{◌>>=◌, is_some_and}
use Rattle.ilk_base.proofs.Options.{bind_some, some-and}
use Rattle.ilk_base.proofs.Lists.{at-before, at-either, at-past, slice_get-push_cases}
use Rattle.ilk_cnf.specs.Literal.{Literal, negated_lit, same_lit, has_lit, has_distinct_vars}
use Rattle.ilk_cnf.specs.Formula.{is_clause_over}
use Rattle.ilk_cnf.proofs.SameLiterals.{same-lit, lit-is}
use Rattle.ilk_watches.proofs.Forced.{unit-forces}
use Rattle.ilk_log.specs.Propagation.{is_false, is_falsified, only_lit_if_unset, unit_lit, after_hint}
use Rattle.ilk_log.specs.Derived.{hints_end_in_conflict, negated_clause}
use Rattle.ilk_log.specs.Fresh.{other_lits}
use Rattle.ilk_log.proofs.Closed.{Within, lone-is}
use Rattle.ilk_learn.proofs.Derived.{false-from, false-at, has-negated_lit, unit-one}
use Rattle.ilk_learn.proofs.Members.{kept-at, kept-from}
use Rattle.ilk_rup.specs.Accepted.{FollowsBySomeHints}
use Rattle.ilk_rup.specs.Alike.{AreEquivalent, HasPropagatedConsequencesOf, HasHintsToConflict}

pub ends-first : (cs : List (List Literal)) (set next : List Literal) (h : ℕ) (hints : List ℕ) → after_hint cs set h ≡ Some next → hints_end_in_conflict cs next hints ≡ true → hints_end_in_conflict cs set (h ∷ hints) ≡ true
ends-first cs set next h [] t e = absurd (true≢false (sym e))
ends-first cs set next h (k ∷ hints) t e = ap (λ (o : Option (List Literal)). is_some_and o (λ z. hints_end_in_conflict cs z (k ∷ hints))) t ∙ e

-- Hints end whenever more is set, and `l` is among it.
abbrev EndsWith : List (List Literal) → List Literal → Literal → Type 0
EndsWith ds all l = (top : List Literal) → Within all top → has_lit l top ≡ true → HasHintsToConflict ds top

-- Hints over `ds` replace clause `d`: they end if it is false, and they can set its forced literal.
pub record Behind (ds : List (List Literal)) (d : List Literal) : Type 0 where
  pub ends : (set : List Literal) → is_falsified set d ≡ true → HasHintsToConflict ds set
  pub forces : (set all : List Literal) (l : Literal) → Within set all → unit_lit set d ≡ Some l → EndsWith ds all l → HasHintsToConflict ds all

pub covered : (ds cs : List (List Literal)) → ((i : ℕ) (d : List Literal) → slice_get cs i ≡ Some d → Behind ds d) → (hints : List ℕ) (set all : List Literal) → Within set all → hints_end_in_conflict cs set hints ≡ true →
    HasHintsToConflict ds all
covered ds cs b [] set all w e = absurd (true≢false (sym e))
covered ds cs b (zero ∷ []) set all w e = absurd (true≢false (sym e))
covered ds cs b (suc i ∷ []) set all w e = (let r = some-and (slice_get cs i) (is_falsified set) e in (b i r.0 r.1).ends all (false-from all r.0 (λ m h. w (negated_lit m) (false-at set r.0 m r.2 h))))
covered ds cs b (zero ∷ (g ∷ hints)) set all w e = absurd (true≢false (sym e))
covered ds cs b (suc i ∷ (g ∷ hints)) set all w e =
    let r = some-and (after_hint cs set (suc i)) (λ next. hints_end_in_conflict cs next (g ∷ hints)) e in
    let c = bind_some (slice_get cs i) (λ (d : List Literal). unit_lit set d >>= (λ (l : Literal). Some (l ∷ set))) r.0 r.1 in
    let u = bind_some (unit_lit set c.0) (λ (l : Literal). Some (l ∷ set)) r.0 c.2 in
    let next = same_Some (u.0 ∷ set) r.0 u.2 in
    (b i c.0 c.1).forces set all u.0 w u.1 (λ top v h. covered ds cs b (g ∷ hints) r.0 top (λ m k. elim (or_cases (same_lit m u.0) (has_lit m set) (ap (has_lit m) next ∙ k)) [
      | inl y ↦ ap (λ (z : Literal). has_lit z top) (lit-is m u.0 y) ∙ h
      | inr y ↦ v m (w m y)
    ]) r.2)

told : (set all d : List Literal) (l : Literal) → Within set all → unit_lit set d ≡ Some l → (has_lit l d ≡ true) × (is_falsified all (other_lits l d) ≡ true)
told set all d l w u =
    let p = and_parts (has_lit l d) (is_falsified set (other_lits l d)) (unit-forces (d ∷ []) set 0 l u) in
    (p.0, false-from all (other_lits l d) (λ m h. w (negated_lit m) (false-at set (other_lits l d) m p.1 h)))

other-false : (all d : List Literal) (l m : Literal) → is_falsified all (other_lits l d) ≡ true → has_lit m d ≡ true → same_lit l m ≡ false → has_lit (negated_lit m) all ≡ true
other-false all d l m o h n = false-at all (other_lits l d) m o (kept-at (λ (x : Literal). not (same_lit l x)) d m h (not_from_false (same_lit l m) n))

all-false : (all d : List Literal) (l : Literal) → is_falsified all (other_lits l d) ≡ true → has_lit (negated_lit l) all ≡ true → is_falsified all d ≡ true
all-false all d l o h = false-from all d (λ m k. elim (cases_Bool (same_lit l m)) [
  | inl e ↦ ap (λ (x : Literal). has_lit (negated_lit x) all) (sym (lit-is l m e)) ∙ h
  | inr e ↦ other-false all d l m o k e
])

own : (l : Literal) (ls : List Literal) → has_lit l (l ∷ ls) ≡ true
own l ls = or_left (same_lit l l) (has_lit l ls) (same-lit l)

alone : (all : List Literal) (l : Literal) → is_falsified all (other_lits l (l ∷ [])) ≡ true
alone all l = (let e : same_lit l l ≡ true = same-lit l in rw e refl)

only : (l x : Literal) → has_lit x (l ∷ []) ≡ true → x ≡ l
only l x h = elim (or_cases (same_lit x l) false h) [ inl e ↦ lit-is x l e | inr e ↦ absurd (true≢false (sym e)) ]

ends-at : (ds : List (List Literal)) (i : ℕ) (d set : List Literal) → slice_get ds i ≡ Some d → is_falsified set d ≡ true → HasHintsToConflict ds set
ends-at ds i d set at f = (suc i ∷ [], rw at f)

ends-unit : (ds : List (List Literal)) (i : ℕ) (d all : List Literal) (l : Literal) → slice_get ds i ≡ Some d → unit_lit all d ≡ Some l → EndsWith ds all l → HasHintsToConflict ds all
ends-unit ds i d all l at u k =
    let e = k (l ∷ all) (λ m h. or_right (same_lit m l) (has_lit m all) h) (own l all) in
    (suc i ∷ e.0, ends-first ds all (l ∷ all) (suc i) e.0 (rw at (rw u refl)) e.1)

ends-forced : (ds : List (List Literal)) (i : ℕ) (d all : List Literal) (l : Literal) → slice_get ds i ≡ Some d → has_distinct_vars d ≡ true → has_lit l d ≡ true → is_falsified all (other_lits l d) ≡ true → EndsWith ds all l →
    HasHintsToConflict ds all
ends-forced ds i d all l at differ h o k = elim (cases_Bool (has_lit (negated_lit l) all)) [
  | inl t ↦ ends-at ds i d all at (all-false all d l o t)
  | inr t ↦ elim (cases_Bool (has_lit l all)) [
    | inl u ↦ k all (λ m x. x) u
    | inr u ↦ ends-unit ds i d all l at (unit-one all d l differ h u t (λ m x n. other-false all d l m o x n)) k
  ]
]

behind-own : (ds : List (List Literal)) (i : ℕ) (d : List Literal) → slice_get ds i ≡ Some d → Behind ds d
behind-own ds i d at = record {
  ends = λ set f. ends-at ds i d set at f;
  forces = λ set all l w u k. elim (cases_Bool (has_lit (negated_lit l) all)) [
    | inl t ↦ ends-at ds i d all at (all-false all d l (told set all d l w u).1 t)
    | inr t ↦ elim (cases_Bool (has_lit l all)) [
      | inl h ↦ k all (λ m x. x) h
      | inr h ↦ ends-unit ds i d all l at (still set all d l w u h t) k
    ]
  ];
}
  where
    twice : (p q : Literal → Bool) (ls : List Literal) → ((m : Literal) → q m ≡ true → p m ≡ true) → filter q ls ≡ filter q (filter p ls)
    twice p q [] f = refl
    twice p q (m ∷ ls) f = elim (cases_Bool (p m)) [
      | inl t ↦ rw t (ap (λ (ms : List Literal). cond (q m) (m ∷ ms) ms) (twice p q ls f))
      | inr t ↦ (let s : q m ≡ false = elim (cases_Bool (q m)) [ inl u ↦ absurd (true≢false (sym (f m u) ∙ t)) | inr u ↦ u ] in rw (s, t) (twice p q ls f))
    ]

    still : (set all d : List Literal) (l : Literal) → Within set all → unit_lit set d ≡ Some l → has_lit l all ≡ false → has_lit (negated_lit l) all ≡ false → unit_lit all d ≡ Some l
    still set all d l w u h t =
        let p : Literal → Bool = λ m. not (is_false set m) in
        let q : Literal → Bool = λ m. not (is_false all m) in
        let less : (m : Literal) → q m ≡ true → p m ≡ true = λ m k. elim (cases_Bool (has_lit (negated_lit m) set)) [
          | inl x ↦ absurd (true≢false (sym (w (negated_lit m) x) ∙ not-true (has_lit (negated_lit m) all) k))
          | inr x ↦ not_from_false (has_lit (negated_lit m) set) x
        ] in
        let one : filter q (l ∷ []) ≡ l ∷ [] = rw t refl in
        ap (only_lit_if_unset all) (twice p q d less ∙ ap (filter q) (lone-is set (filter p d) l u) ∙ one) ∙ rw h refl

behind-same : (ds : List (List Literal)) (i : ℕ) (d c : List Literal) → slice_get ds i ≡ Some d → has_distinct_vars d ≡ true → Within c d → Within d c → Behind ds c
behind-same ds i d c at differ f g = record {
  ends = λ set h. ends-at ds i d set at (false-from set d (λ m x. false-at set c m h (g m x)));
  forces = λ set all l w u k. (let t = told set all c l w u in
      let denied : is_falsified all (other_lits l d) ≡ true = false-from all (other_lits l d) (λ m x. (let p = kept-from (λ (y : Literal). not (same_lit l y)) d m x in
      other-false all c l m t.1 (g m p.0) (not-true (same_lit l m) p.1))) in
      ends-forced ds i d all l at differ (f l t.0) denied k);
}

behind-alone : (ds : List (List Literal)) (i : ℕ) (l : Literal) (c : List Literal) → slice_get ds i ≡ Some (l ∷ []) → has_lit l c ≡ true → Behind ds c
behind-alone ds i l c at h = record {
  ends = λ set f. ends-at ds i (l ∷ []) set at (and_from (has_lit (negated_lit l) set) true (false-at set c l f h) refl);
  forces = λ set all x w u k. (let t = told set all c x w u in elim (cases_Bool (same_lit x l)) [
    | inl e ↦ ends-forced ds i (l ∷ []) all l at refl (own l []) (alone all l) (λ top v y. k top v (ap (λ (z : Literal). has_lit z top) (lit-is x l e) ∙ y))
    | inr e ↦ ends-at ds i (l ∷ []) all at (and_from (has_lit (negated_lit l) all) true (other-false all c x l t.1 h e) refl)
  ]);
}

cleared : (ds : List (List Literal)) (ms all : List Literal) →
    ((m : Literal) → has_lit m ms ≡ true → (i : ℕ) × (slice_get ds i ≡ Some (negated_lit m ∷ []))) →
    ((top : List Literal) → Within all top → is_falsified top ms ≡ true → HasHintsToConflict ds top) → HasHintsToConflict ds all
cleared ds [] all b k = k all (λ m h. h) refl
cleared ds (m ∷ ms) all b k =
    let u = b m (own m ms) in
    ends-forced ds u.0 (negated_lit m ∷ []) all (negated_lit m) u.1 refl (own (negated_lit m) []) (alone all (negated_lit m)) (λ top w h.
    cleared ds ms top (λ x y. b x (or_right (same_lit x m) (has_lit x ms) y)) (λ next v f.
    k next (λ x y. v x (w x y)) (and_from (has_lit (negated_lit m) next) (is_falsified next ms) (v (negated_lit m) h) f)))

behind-forced : (ds : List (List Literal)) (r : ℕ) (d : List Literal) (l : Literal) →
    slice_get ds r ≡ Some d → has_distinct_vars d ≡ true → has_lit l d ≡ true →
    ((m : Literal) → has_lit m (other_lits l d) ≡ true → (i : ℕ) × (slice_get ds i ≡ Some (negated_lit m ∷ []))) →
    Behind ds (l ∷ [])
behind-forced ds r d l at differ h b = record {
  ends = λ set f. cleared ds (other_lits l d) set b (λ top w o. ends-at ds r d top at (all-false top d l o (w (negated_lit l) (and_parts (has_lit (negated_lit l) set) true f).0)));
  forces = λ set all x w u k. cleared ds (other_lits l d) all b (λ top v o. ends-forced ds r d top l at differ h o (λ next y z. k next (λ m q. y m (v m q)) (ap (λ (q : Literal). has_lit q next) (only l x (told set all (l ∷ []) x w u).0) ∙ z)));
}

covers-by : (ds cs : List (List Literal)) → ((more : List (List Literal)) (i : ℕ) (d : List Literal) → slice_get cs i ≡ Some d → Behind (ds ++ more) d) → HasPropagatedConsequencesOf ds cs
covers-by ds cs f = λ more set e. covered (ds ++ more) (cs ++ more) (λ i d at. elim (at-either cs more i d at) [
  | inl a ↦ f more a.0 d a.1
  | inr a ↦ behind-own (ds ++ more) (length ds + a.0) d (at-past ds more a.0 d a.1)
]) e.0 set set (λ m h. h) e.1

pub last-at : {X : Type 0} (xs : List X) (x : X) → slice_get (xs ++ x ∷ []) (length xs) ≡ Some x
last-at [] x = refl
last-at (y ∷ xs) x = last-at xs x

pub alike-self : (cs : List (List Literal)) → AreEquivalent cs cs
alike-self cs = record { there = λ more set e. e; back = λ more set e. e }

pub alike-join : (bs cs ds : List (List Literal)) → AreEquivalent bs cs → AreEquivalent cs ds → AreEquivalent bs ds
alike-join bs cs ds j k = record { there = λ more set e. k.there more set (j.there more set e); back = λ more set e. j.back more set (k.back more set e) }

pub alike-back : (cs ds : List (List Literal)) → AreEquivalent cs ds → AreEquivalent ds cs
alike-back cs ds k = record { there = k.back; back = k.there }

pub alike-more : (cs ds xs : List (List Literal)) → AreEquivalent cs ds → AreEquivalent (cs ++ xs) (ds ++ xs)
alike-more cs ds xs k = record { there = covers-more ds cs k.there; back = covers-more cs ds k.back }
  where
    covers-more : (ds cs : List (List Literal)) → HasPropagatedConsequencesOf ds cs → HasPropagatedConsequencesOf (ds ++ xs) (cs ++ xs)
    covers-more ds cs c = λ more set e.
        (let P : List (List Literal) → Type 0 = λ ys. HasHintsToConflict ys set in
        subst P (sym (append_assoc ds xs more)) (c (xs ++ more) set (subst P (append_assoc cs xs more) e)))

alike-spare : (cs : List (List Literal)) (d : List Literal) → ((more : List (List Literal)) → Behind (cs ++ more) d) → AreEquivalent (cs ++ d ∷ []) cs
alike-spare cs d f = record {
  there = covers-by cs (cs ++ d ∷ []) (λ more i x at. elim (slice_get-push_cases cs d x i at) [
    | inl b ↦ behind-own (cs ++ more) i x (at-before cs more i x b)
    | inr b ↦ (let P : List Literal → Type 0 = λ y. Behind (cs ++ more) y in subst P b.1 (f more))
  ]);
  back = covers-by (cs ++ d ∷ []) cs (λ more i x at. behind-own ((cs ++ d ∷ []) ++ more) i x (at-before (cs ++ d ∷ []) more i x (at-before cs (d ∷ []) i x at)));
}

pub alike-forced : (cs : List (List Literal)) (r : ℕ) (d : List Literal) (l : Literal) →
    slice_get cs r ≡ Some d → has_distinct_vars d ≡ true → has_lit l d ≡ true →
    ((m : Literal) → has_lit m (other_lits l d) ≡ true → (i : ℕ) × (slice_get cs i ≡ Some (negated_lit m ∷ []))) →
    AreEquivalent (cs ++ (l ∷ []) ∷ []) cs
alike-forced cs r d l at differ h b = alike-spare cs (l ∷ []) (λ more. behind-forced (cs ++ more) r d l (at-before cs more r d at) differ h (λ m x. (let u = b m x in (u.0, at-before cs more u.0 (negated_lit m ∷ []) u.1))))

pub alike-known : (cs : List (List Literal)) (i : ℕ) (l : Literal) (c : List Literal) → slice_get cs i ≡ Some (l ∷ []) → has_lit l c ≡ true → AreEquivalent (cs ++ c ∷ []) cs
alike-known cs i l c at h = alike-spare cs c (λ more. behind-alone (cs ++ more) i l c (at-before cs more i (l ∷ []) at) h)

pub alike-same : (cs : List (List Literal)) (c d : List Literal) → has_distinct_vars c ≡ true → has_distinct_vars d ≡ true → Within c d → Within d c → AreEquivalent (cs ++ c ∷ []) (cs ++ d ∷ [])
alike-same cs c d v w f g = record { there = one c d w f g; back = one d c v g f }
  where
    one : (c d : List Literal) → has_distinct_vars d ≡ true → Within c d → Within d c → HasPropagatedConsequencesOf (cs ++ d ∷ []) (cs ++ c ∷ [])
    one c d w f g = covers-by (cs ++ d ∷ []) (cs ++ c ∷ []) (λ more i x at. elim (slice_get-push_cases cs c x i at) [
      | inl b ↦ behind-own ((cs ++ d ∷ []) ++ more) i x (at-before (cs ++ d ∷ []) more i x (at-before cs (d ∷ []) i x b))
      | inr b ↦ (let P : List Literal → Type 0 = λ y. Behind ((cs ++ d ∷ []) ++ more) y in
          subst P b.1 (behind-same ((cs ++ d ∷ []) ++ more) (length cs) d c (at-before (cs ++ d ∷ []) more (length cs) d (last-at cs d)) w f g))
    ])

pub follows-alike : (n : ℕ) (cs ds : List (List Literal)) (c : List Literal) → AreEquivalent cs ds → FollowsBySomeHints n cs c → FollowsBySomeHints n ds c
follows-alike n cs ds c k h =
    let p = and_parts (is_clause_over n c && has_distinct_vars c) (hints_end_in_conflict cs (negated_clause c) h.0) h.1 in
    let P : List (List Literal) → Type 0 = λ ys. HasHintsToConflict ys (negated_clause c) in
    let e = subst P (append-nil ds) (k.there [] (negated_clause c) (subst P (sym (append-nil cs)) (h.0, p.1))) in
    (e.0, and_from (is_clause_over n c && has_distinct_vars c) (hints_end_in_conflict ds (negated_clause c) e.0) p.0 e.1)

ends-any : (cs more : List (List Literal)) (set : List Literal) → HasHintsToConflict cs [] → HasHintsToConflict (cs ++ more) set
ends-any cs more set e = covered (cs ++ more) cs (λ i x at. behind-own (cs ++ more) i x (at-before cs more i x at)) e.0 [] set (λ m x. absurd (true≢false (sym x))) e.1

pub follows-any : (n : ℕ) (cs : List (List Literal)) (c : List Literal) → is_clause_over n c ≡ true → has_distinct_vars c ≡ true → FollowsBySomeHints n cs [] → FollowsBySomeHints n cs c
follows-any n cs c w d h =
    let P : List (List Literal) → Type 0 = λ ys. HasHintsToConflict ys (negated_clause c) in
    let e = subst P (append-nil cs) (ends-any cs [] (negated_clause c) h) in
    (e.0, and_from (is_clause_over n c && has_distinct_vars c) (hints_end_in_conflict cs (negated_clause c) e.0) (and_from (is_clause_over n c) (has_distinct_vars c) w d) e.1)

pub alike-ended : (n : ℕ) (cs : List (List Literal)) (c : List Literal) → FollowsBySomeHints n cs [] → AreEquivalent (cs ++ c ∷ []) cs
alike-ended n cs c h = alike-spare cs c (λ more. record { ends = λ set f. ends-any cs more set h; forces = λ set all l w u k. ends-any cs more all h })

pub follows-known : (n : ℕ) (cs : List (List Literal)) (i : ℕ) (l : Literal) (c : List Literal) → slice_get cs i ≡ Some (l ∷ []) → has_lit l c ≡ true → is_clause_over n c ≡ true → has_distinct_vars c ≡ true → FollowsBySomeHints n cs c
follows-known n cs i l c at h w d =
    let e = ends-at cs i (l ∷ []) (negated_clause c) at (and_from (has_lit (negated_lit l) (negated_clause c)) true (has-negated_lit c l h) refl) in
    (e.0, and_from (is_clause_over n c && has_distinct_vars c) (hints_end_in_conflict cs (negated_clause c) e.0) (and_from (is_clause_over n c) (has_distinct_vars c) w d) e.1)
