-- Walks side by side: a step along one chain keeps the other walk and what is covered.
use Rattle.std.proofs.Common.{◌≡◌, ◌≢◌, ◌≤◌, ℕ, inl, inr, true, List, [], ◌∷◌, length, get_or, take, Option, sym, ap, ◌∙◌}
use Rattle.std.proofs.lemmas.Bool.{true≢false}
use Rattle.std.proofs.lemmas.List.{get_or-set_other}
use Rattle.ilk_cnf.specs.Literal.{Literal, negated_lit, same_lit, has_distinct_vars}
use Rattle.ilk_log.specs.Propagation.{is_false}
use Rattle.ilk_trail.specs.declared.entry.Entry.{Entry}
use Rattle.ilk_trail.specs.Laws.{lits_of}
use Rattle.ilk_arena.specs.Arena.{ArenaContent, place, chain_of, chains_with_first, with_watch_moved, contains_reference, chains_after_removal_from, without_reference}
use Rattle.ilk_arena.proofs.Watching.{place-one, stands-with_watch_moved}
use Rattle.ilk_watches.specs.Chained.{SameClauses}
use Rattle.ilk_watches.specs.Visits.{AtMostOneLeftChain, CoveredExceptInChains, OtherWatchesTrueBefore, count_rest_of_chain, rest_from}
use Rattle.ilk_watches.proofs.Entries.{lit-kept, not-both}
use Rattle.ilk_watches.proofs.Covers.{but-chains, but-more, but-with_watch_moved}

pub record StepAt (a b : ArenaContent) (es fs : List Entry) (f : Literal) : Type 0 where
  pub same : SameClauses a b
  pub kept : take (length es) fs ≡ es
  pub chains : AtMostOneLeftChain a es b f
  pub once : has_distinct_vars (lits_of es) ≡ true
  pub denied : is_false (lits_of es) f ≡ true

chain-kept : (a : ArenaContent) (c : ℕ) (f t g : Literal) → g ≢ f → g ≢ t → chain_of (with_watch_moved a c f t) g ≡ chain_of a g
chain-kept a c f t g nf nt =
    let out = chains_after_removal_from f c a.chains in
    let put : get_or (chains_with_first t c out) (place g) [] ≡ get_or out (place g) [] = get_or-set_other out (place t) (place g) (c ∷ get_or out (place t) []) [] (λ e. nt (place-one g t e)) in
    put ∙ get_or-set_other a.chains (place f) (place g) (without_reference c (get_or a.chains (place f) [])) [] (λ e. nf (place-one g f e))

pub chain-beside : (a b : ArenaContent) (es fs : List Entry) (f g : Literal) → StepAt a b es fs f → is_false (lits_of es) g ≡ true → g ≢ f → chain_of b g ≡ chain_of a g
chain-beside a b es fs f g s fg n = elim s.chains [
  | inl e ↦ ap (λ (ch : List (List ℕ)). get_or ch (place g) []) e
  | inr m ↦ ap (λ (ch : List (List ℕ)). get_or ch (place g) []) m.chains ∙ chain-kept a m.clause f m.to g n (λ q. true≢false (sym fg ∙ ap (is_false (lits_of es)) q ∙ m.open_one))
]

still-true : (a b : ArenaContent) (es fs : List Entry) (f g : Literal) (c : ℕ) (l : Literal) →
    StepAt a b es fs f →
    ((m : Literal) → contains_reference c (chain_of a m) ≡ true → m ≢ g →
    Rattle.ilk_cnf.specs.Literal.has_lit m (lits_of es) ≡ true) → g ≢ f →
    contains_reference c (chain_of b l) ≡ true → l ≢ g → Rattle.ilk_cnf.specs.Literal.has_lit l (lits_of fs) ≡ true
still-true a b es fs f g c l s h n st ne = elim s.chains [
  | inl e ↦ lit-kept es fs l s.kept (h l (ap (λ (ch : List (List ℕ)). contains_reference c (get_or ch (place l) [])) (sym e) ∙ st) ne)
  | inr m ↦ (let r : contains_reference c (chain_of (with_watch_moved a m.clause f m.to) l) ≡ true = ap (λ (ch : List (List ℕ)). contains_reference c (get_or ch (place l) [])) (sym m.chains) ∙ st in
      elim (stands-with_watch_moved a m.clause f m.to c l r) [
        | inl q ↦ lit-kept es fs l s.kept (h l q ne)
        | inr q ↦ absurd (let here : contains_reference c (chain_of a f) ≡ true = ap (λ (x : ℕ). contains_reference x (chain_of a f)) q.0 ∙ m.stood in
            not-both es f s.once (h f here (λ x. n (sym x))) s.denied)
      ])
]

pub walking-beside : (a b : ArenaContent) (es fs : List Entry) (f g : Literal) (before next : Option ℕ) → StepAt a b es fs f → is_false (lits_of es) g ≡ true → g ≢ f → OtherWatchesTrueBefore a es g before next →
    OtherWatchesTrueBefore b fs g before next
walking-beside a b es fs f g before next s fg n w = record {
  passed = w.passed;
  rest = w.rest;
  before_is = w.before_is;
  next_is = w.next_is;
  is = record {
    split = chain-beside a b es fs f g s fg n ∙ w.is.split;
    done = λ c p l st ne. still-true a b es fs f g c l s (w.is.done c p) n st ne;
  };
}

pub left-beside : (a b : ArenaContent) (es fs : List Entry) (f g : Literal) (next : Option ℕ) → StepAt a b es fs f → is_false (lits_of es) g ≡ true → g ≢ f → count_rest_of_chain b g next ≡ count_rest_of_chain a g next
left-beside a b es fs f g next s fg n = ap (λ (cs : List ℕ). length (rest_from next cs)) (chain-beside a b es fs f g s fg n)

pub but-step : (a b : ArenaContent) (es fs : List Entry) (n : ℕ) (f g : Literal) → StepAt a b es fs f → n ≤ length es → CoveredExceptInChains a es n f g → CoveredExceptInChains b fs n f g
but-step a b es fs n f g s le h = but-more b es fs n f g s.kept le (elim s.chains [
  | inl e ↦ but-chains a b es n f g s.same.references e h
  | inr m ↦ but-chains (with_watch_moved a m.clause f m.to) b es n f g s.same.references m.chains (but-with_watch_moved a es n m.clause f g m.to s.once s.denied m.open_one m.stood h)
])
