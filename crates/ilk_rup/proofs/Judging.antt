use Rattle.std.proofs.Common.{◌≡◌, ◌<◌, ◌+◌, ◌++◌, ◌∷◌, [], ℕ, suc, List, Option, Some, None, length, refl, sym, ap, ◌∙◌, subst, arith, append-nil}
use Rattle.std.specs.Prelude.{unwrap_or}
use Rattle.std.proofs.lemmas.Option.{same_Some}
use Rattle.ilk_cnf.specs.Literal.{Literal}
use Rattle.ilk_cnf.specs.Formula.{Formula}
use Rattle.ilk_lines.specs.Lines.{Bytes}
use Rattle.ilk_rup.specs.Accepted.{ItemsAreRightAndRefute, EachClauseFollowsBySomeHints, IsFirstBadAmong, FollowsBySomeHints, IsRightItem, with_clause_added_by_item, text_items}
use Rattle.ilk_rup.specs.Alike.{AreEquivalent}
use Rattle.ilk_rup.specs.Checker.{FormulaAndStoredClauses}
use Rattle.ilk_rup.specs.RefutationText.{clause_added_by_item, split_words_into_items, text_words}
use Rattle.ilk_rup.specs.Stepped.{HasAcceptedItem, RestDecidesWhole}
use Rattle.ilk_rup.proofs.Alike.{alike-back, alike-join, alike-more, alike-self, follows-alike}

each-alike : (n : ℕ) (cs ds more : List (List Literal)) → AreEquivalent cs ds → EachClauseFollowsBySomeHints n cs more → EachClauseFollowsBySomeHints n ds more
each-alike n cs ds [] k h = tt
each-alike n cs ds (c ∷ more) k h = (follows-alike n cs ds c k h.0, each-alike n cs ds more k h.1)

right-alike : (n : ℕ) (cs ds : List (List Literal)) (item : List Bytes) → AreEquivalent cs ds → IsRightItem n cs item → IsRightItem n ds item
right-alike n cs ds item k h = (h.0, h.1, each-alike n cs ds h.0 k h.2)

bad-alike : (n : ℕ) (cs ds : List (List Literal)) (items : List (List Bytes)) → AreEquivalent cs ds → IsFirstBadAmong n cs items 1 → IsFirstBadAmong n ds items 1
bad-alike n cs ds [] k h = λ f. h (follows-alike n ds cs [] (alike-back cs ds k) f)
bad-alike n cs ds (item ∷ items) k h = λ r. h (right-alike n ds cs item (alike-back cs ds k) r)

pub step-malformed : (k : FormulaAndStoredClauses) (words item : List Bytes) (items : List (List Bytes)) → split_words_into_items words ≡ item ∷ items → clause_added_by_item k.formula.vars item ≡ None
    → IsFirstBadAmong k.formula.vars k.clauses (split_words_into_items words) 1
step-malformed k words item items is none = (let P : List (List Bytes) → Type 0 = λ xs. IsFirstBadAmong k.formula.vars k.clauses xs 1 in subst P (sym is) (λ right. (let z : None ≡ Some right.0 = sym none ∙ right.1 in cc)))

pub step-unfollowed :
    (k : FormulaAndStoredClauses) (words item : List Bytes) (items : List (List Bytes)) (c : List Literal) →
    split_words_into_items words ≡ item ∷ items → clause_added_by_item k.formula.vars item ≡ Some (c ∷ []) →
    (FollowsBySomeHints k.formula.vars k.clauses c → ⊥) → IsFirstBadAmong k.formula.vars k.clauses (split_words_into_items words) 1
step-unfollowed k words item items c is added none =
    let P : List (List Bytes) → Type 0 = λ xs. IsFirstBadAmong k.formula.vars k.clauses xs 1 in
    let Q : List (List Literal) → Type 0 = λ cs. EachClauseFollowsBySomeHints k.formula.vars k.clauses cs in
    subst P (sym is) (λ right. none (subst Q (same_Some right.0 (c ∷ []) (sym right.1 ∙ added)) right.2).0)

pub step-idle : (k : FormulaAndStoredClauses) (words left item : List Bytes) → split_words_into_items words ≡ item ∷ split_words_into_items left → clause_added_by_item k.formula.vars item ≡ Some [] → length left < length words
    → HasAcceptedItem k words left k
step-idle k words left item is added less =
    let A : Option (List (List Literal)) → Type 0 = λ o. AreEquivalent (k.clauses ++ unwrap_or o []) k.clauses in
    let N : List (List Literal) → Type 0 = λ cs. AreEquivalent cs k.clauses in
    record { item = item; is = is; right = ([], added, tt); formula = refl; alike = subst A (sym added) (subst N (sym (append-nil k.clauses)) (alike-self k.clauses)); shorter = less }

pub step-adds : (k new : FormulaAndStoredClauses) (words left item : List Bytes) (c : List Literal) →
    split_words_into_items words ≡ item ∷ split_words_into_items left → clause_added_by_item k.formula.vars item ≡ Some (c ∷ []) →
    FollowsBySomeHints k.formula.vars k.clauses c → new.formula ≡ k.formula → AreEquivalent (k.clauses ++ c ∷ []) new.clauses →
    length left < length words → HasAcceptedItem k words left new
step-adds k new words left item c is added follows same alike less =
    let A : Option (List (List Literal)) → Type 0 = λ o. AreEquivalent (k.clauses ++ unwrap_or o []) new.clauses in
    record { item = item; is = is; right = (c ∷ [], added, (follows, tt)); formula = same; alike = subst A (sym added) alike; shorter = less }

-- The stored clauses have the consequences of the formula and the items before item `k`.
pub record Going (f : Formula) (text : Bytes) (now : FormulaAndStoredClauses) (left : List Bytes) (k : ℕ) : Type 0 where
  pub formula : now.formula ≡ f
  pub given : List (List Literal)
  pub alike : AreEquivalent now.clauses given
  pub progress : RestDecidesWhole f text given left k

pub going-start : (f : Formula) (text : Bytes) (now : FormulaAndStoredClauses) (left : List Bytes) → now.formula ≡ f → AreEquivalent f.clauses now.clauses → left ≡ text_words text → Going f text now left 1
going-start f text now left e alike is =
    let P : List Bytes → Type 0 = λ ws. RestDecidesWhole f text f.clauses ws 1 in
    let Q : ℕ → Type 0 = λ i. IsFirstBadAmong f.vars f.clauses (text_items text) i in
    let start : RestDecidesWhole f text f.clauses (text_words text) 1 = record { accepted = λ h. h; bad = λ j h. (let n : suc j ≡ 1 + j = omega arith in subst Q n h) } in
    record { formula = e; given = f.clauses; alike = alike-back f.clauses now.clauses alike; progress = subst P (sym is) start }

pub going-step : (f : Formula) (text : Bytes) (now new : FormulaAndStoredClauses) (left rest : List Bytes) (k : ℕ) → Going f text now left k → HasAcceptedItem now left rest new → Going f text new rest (k + 1)
going-step f text now new left rest k g s =
    let given = g.given in
    let vars = ap (λ (x : Formula). x.vars) g.formula in
    let R : ℕ → Type 0 = λ n. IsRightItem n given s.item in
    let A : ℕ → Type 0 = λ n. AreEquivalent new.clauses (given ++ unwrap_or (clause_added_by_item n s.item) []) in
    let right = subst R vars (right-alike now.formula.vars now.clauses given s.item g.alike s.right) in
    let more = unwrap_or (clause_added_by_item now.formula.vars s.item) [] in
    record {
      formula = s.formula ∙ g.formula;
      given = with_clause_added_by_item f.vars given s.item;
      alike = subst A vars (alike-join new.clauses (now.clauses ++ more) (given ++ more) (alike-back (now.clauses ++ more) new.clauses s.alike) (alike-more now.clauses given more g.alike));
      progress = record {
        accepted = λ h. g.progress.accepted (let P : List (List Bytes) → Type 0 = λ xs. ItemsAreRightAndRefute f.vars given xs in subst P (sym s.is) (right, h));
        bad = λ j h. (let P : List (List Bytes) → Type 0 = λ xs. IsFirstBadAmong f.vars given xs (suc (suc j)) in
            let e : k + suc j ≡ (k + 1) + j = omega arith in
            let Q : ℕ → Type 0 = λ n. IsFirstBadAmong f.vars f.clauses (text_items text) n in
            subst Q e (g.progress.bad (suc j) (subst P (sym s.is) (right, h))));
      };
    }

pub going-bad : (f : Formula) (text : Bytes) (now : FormulaAndStoredClauses) (left : List Bytes) (k : ℕ) → Going f text now left k → IsFirstBadAmong now.formula.vars now.clauses (split_words_into_items left) 1
    → IsFirstBadAmong f.vars f.clauses (text_items text) k
going-bad f text now left k g h =
    let e : k + 0 ≡ k = omega arith in
    let Q : ℕ → Type 0 = λ n. IsFirstBadAmong f.vars f.clauses (text_items text) n in
    let P : Formula → Type 0 = λ x. IsFirstBadAmong x.vars g.given (split_words_into_items left) 1 in
    subst Q e (g.progress.bad 0 (subst P g.formula (bad-alike now.formula.vars now.clauses g.given (split_words_into_items left) g.alike h)))

pub going-end : (f : Formula) (text : Bytes) (now : FormulaAndStoredClauses) (left : List Bytes) (k : ℕ) → Going f text now left k → left ≡ [] → FollowsBySomeHints now.formula.vars now.clauses []
    → ItemsAreRightAndRefute f.vars f.clauses (text_items text)
going-end f text now left k g e h =
    let P : List Bytes → Type 0 = λ ws. ItemsAreRightAndRefute f.vars g.given (split_words_into_items ws) in
    let F : Formula → Type 0 = λ x. FollowsBySomeHints x.vars g.given [] in
    g.progress.accepted (subst P (sym e) (subst F g.formula (follows-alike now.formula.vars now.clauses g.given [] g.alike h)))
