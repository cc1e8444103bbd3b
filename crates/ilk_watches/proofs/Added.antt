use Rattle.std.proofs.Common.{◌≡◌, ◌≢◌, ◌⊎◌, ◌<◌, ◌≤◌, ◌+◌, ℕ, inl, inr, true, false, List, [], ◌∷◌, ◌++◌, length, Some, refl, sym, ap, ◌∙◌, subst, arith, length-append}
use Rattle.std.specs.List.{slice_get}
use Rattle.std.proofs.lemmas.Bool.{and_parts, and_from, cases_Bool, true≢false}
use Rattle.std.proofs.lemmas.Option.{get_or_from_slice_get}
use Rattle.std.proofs.Math.ListN.{get_or-append}
use Rattle.ilk_base.proofs.Lists.{at-before, at-past}
use Rattle.ilk_cnf.specs.Literal.{Literal, negated_lit, same_lit}
use Rattle.ilk_cnf.proofs.Gates.{negated_lit-negated_lit}
use Rattle.ilk_cnf.proofs.SameLiterals.{same-lit}
use Rattle.ilk_log.specs.Fresh.{other_lits}
use Rattle.ilk_log.specs.Propagation.{is_false, is_falsified}
use Rattle.ilk_trail.specs.declared.entry.Entry.{Entry}
use Rattle.ilk_trail.specs.Laws.{is_set, lits_of}
use Rattle.ilk_trail.proofs.Entries.{set-at}
use Rattle.ilk_arena.specs.Arena.{ArenaContent, with_clause_added, chain_of, literals_of, number_of_clause, contains_reference}
use Rattle.ilk_arena.proofs.Watching.{stands-with_clause_added}
use Rattle.ilk_watches.specs.Chained.{AreValidNumberedClauses, IsClauseAdded}
use Rattle.ilk_watches.proofs.Chained.{by-number, placed}
use Rattle.ilk_watches.specs.Watched.{is_satisfied, FirstTwoAreWatchable, IsCovered, IsPropagationInvariant, ClauseMayForceLit}
use Rattle.ilk_watches.proofs.Covers.{stands-either, stands-one}

chains-old : (a : ArenaContent) (clause : List Literal) (r s d : ℕ) (p : Literal) → d ≢ r → contains_reference d (chain_of (with_clause_added a clause r s) p) ≡ true → contains_reference d (chain_of a p) ≡ true
chains-old a [] r s d p ne h = h
chains-old a (l ∷ []) r s d p ne h = h
chains-old a (l ∷ (m ∷ ls)) r s d p ne h = elim (stands-with_clause_added a l m ls r s d p h) [ inl q ↦ q | inr q ↦ absurd (ne q.0) ]

pub record Same (a b : ArenaContent) (c : ℕ) : Type 0 where
  pub literals : literals_of b c ≡ literals_of a c
  pub number : number_of_clause b c ≡ number_of_clause a c

old-same : (a : ArenaContent) (clause : List Literal) (r s c : ℕ) → AreValidNumberedClauses a → AreValidNumberedClauses (with_clause_added a clause r s) → contains_reference c a.references ≡ true → Same a (with_clause_added a clause r s) c
old-same a clause r s c ka kb known =
    let p = placed a.references c known in
    let old = by-number a p.index c ka p.stands in
    let new = by-number (with_clause_added a clause r s) p.index c kb (at-before a.references (r ∷ []) p.index c p.stands) in
    record {
      literals = new.literals ∙ get_or-append a.clauses (clause ∷ []) [] p.index (omega (arith, p.within, ka.paired)) ∙ sym old.literals;
      number = new.number ∙ sym old.number;
    }

pub record New (b : ArenaContent) (clause : List Literal) (r n : ℕ) : Type 0 where
  pub literals : literals_of b r ≡ clause
  pub number : number_of_clause b r ≡ n + 1

new-is : (a : ArenaContent) (clause : List Literal) (r s : ℕ) → AreValidNumberedClauses a → AreValidNumberedClauses (with_clause_added a clause r s) → New (with_clause_added a clause r s) clause r (length a.clauses)
new-is a clause r s ka kb =
    let z : length a.references + 0 ≡ length a.clauses = omega (arith, ka.paired) in
    let there : slice_get (a.references ++ r ∷ []) (length a.clauses) ≡ Some r = ap (slice_get (a.references ++ r ∷ [])) (sym z) ∙ at-past a.references (r ∷ []) 0 r refl in
    let new = by-number (with_clause_added a clause r s) (length a.clauses) r kb there in
    let y : length a.clauses + 0 ≡ length a.clauses = omega arith in
    let last : slice_get (a.clauses ++ clause ∷ []) (length a.clauses) ≡ Some clause = ap (slice_get (a.clauses ++ clause ∷ [])) (sym y) ∙ at-past a.clauses (clause ∷ []) 0 clause refl in
    record { literals = new.literals ∙ get_or_from_slice_get (a.clauses ++ clause ∷ []) (length a.clauses) clause [] last; number = new.number }

falsified-other_lits : (set : List Literal) (l : Literal) (ls : List Literal) → is_falsified set ls ≡ true → is_falsified set (other_lits l ls) ≡ true
falsified-other_lits set l [] h = refl
falsified-other_lits set l (m ∷ ls) h =
    let p = and_parts (is_false set m) (is_falsified set ls) h in
    elim (cases_Bool (same_lit l m)) [
      | inl t ↦ rw t (falsified-other_lits set l ls p.1)
      | inr t ↦ rw t (and_from (is_false set m) (is_falsified set (other_lits l ls)) p.0 (falsified-other_lits set l ls p.1))
    ]

not-made : (es : List Entry) (i : ℕ) (e : Entry) (l : Literal) → is_set es l.var ≡ false → slice_get es i ≡ Some e → e.lit ≢ negated_lit l
not-made es i e l u s q = true≢false (sym (set-at es i e s) ∙ ap (λ (m : Literal). is_set es m.var) q ∙ u)

new-watches : (a : ArenaContent) (l m : Literal) (ls : List Literal) (r s : ℕ) (p : Literal) → AreValidNumberedClauses a → contains_reference r a.references ≡ false → contains_reference r (chain_of (with_clause_added a (l ∷ (m ∷ ls)) r s) p) ≡ true →
    (p ≡ l) ⊎ (p ≡ m)
new-watches a l m ls r s p k fresh h =
    elim (stands-with_clause_added a l m ls r s r p h) [
      | inl q ↦ absurd (true≢false (sym (k.arena.held p r q) ∙ fresh))
      | inr q ↦ q.1
    ]

new-covered : (a : ArenaContent) (es : List Entry) (h s r sp : ℕ) (clause : List Literal) → AreValidNumberedClauses a →
    AreValidNumberedClauses (with_clause_added a clause r sp) → contains_reference r a.references ≡ false →
    contains_reference r (with_clause_added a clause r sp).references ≡ true → s ≤ length a.clauses → FirstTwoAreWatchable es clause →
    IsCovered (with_clause_added a clause r sp) es h r
    ⊎
    ((s < number_of_clause (with_clause_added a clause r sp) r) ×
    ((x y : Literal) × ClauseMayForceLit (with_clause_added a clause r sp) es h r x y))
new-covered a es h s r sp [] ka kb fresh known le ok =
    let new = new-is a [] r sp ka kb in
    inl (λ i e l b t w1 w2 ne. absurd (true≢false (sym w1 ∙ kb.arena.short r known (omega (arith, ap length new.literals)) (negated_lit e.lit))))
new-covered a es h s r sp (l ∷ []) ka kb fresh known le ok =
    let new = new-is a (l ∷ []) r sp ka kb in
    inl (λ i e p b t w1 w2 ne. absurd (true≢false (sym w1 ∙ kb.arena.short r known (omega (arith, ap length new.literals)) (negated_lit e.lit))))
new-covered a es h s r sp (l ∷ (m ∷ ls)) ka kb fresh known le ok =
    let new = new-is a (l ∷ (m ∷ ls)) r sp ka kb in
    elim ok.1 [
      | inl u ↦ inl (λ i e p b t w1 w2 ne. absurd (elim (new-watches a l m ls r sp (negated_lit e.lit) ka fresh w1) [
        | inl q ↦ not-made es i e l ok.0 t (sym (negated_lit-negated_lit e.lit) ∙ ap negated_lit q)
        | inr q ↦ not-made es i e m u t (sym (negated_lit-negated_lit e.lit) ∙ ap negated_lit q)
      ]))
      | inr f ↦ inr (
        omega (arith, new.number, le),
        (
          l,
          m,
          record {
            watches = λ p w. new-watches a l m ls r sp p ka fresh w;
            others_false = (let own : same_lit l l ≡ true = same-lit l in
                let rest : is_falsified (lits_of es) (other_lits l (l ∷ (m ∷ ls))) ≡ true = rw own (falsified-other_lits (lits_of es) l (m ∷ ls) f.0) in
                ap (λ (c : List Literal). is_falsified (lits_of es) (other_lits l c)) new.literals ∙ rest);
            recent = f.1;
            possible = λ i e b t. not-made es i e l ok.0 t;
          },
        ),
      )
    ]

old-covered : (a : ArenaContent) (es : List Entry) (h s r sp c : ℕ) (clause : List Literal) → IsPropagationInvariant a es h s →
    AreValidNumberedClauses a → AreValidNumberedClauses (with_clause_added a clause r sp) → contains_reference c a.references ≡ true → c ≢ r →
    IsCovered (with_clause_added a clause r sp) es h c
    ⊎
    ((s < number_of_clause (with_clause_added a clause r sp) c) ×
    ((x y : Literal) × ClauseMayForceLit (with_clause_added a clause r sp) es h c x y))
old-covered a es h s r sp c clause q ka kb known ne =
    let same = old-same a clause r sp c ka kb known in
    elim (q.watched c known) [
      | inl v ↦ inl (λ i e l b t w1 w2 apart. v i e l b t (chains-old a clause r sp c (negated_lit e.lit) ne w1) (chains-old a clause r sp c l ne w2) apart)
      | inr m ↦ inr (
        omega (arith, m.0, same.number),
        (
          m.1.0,
          m.1.1,
          record {
            watches = λ l w. m.1.2.watches l (chains-old a clause r sp c l ne w);
            others_false = ap (λ (ls : List Literal). is_falsified (lits_of es) (other_lits m.1.0 ls)) same.literals ∙ m.1.2.others_false;
            recent = m.1.2.recent;
            possible = m.1.2.possible;
          },
        ),
      )
    ]

grown : (a : ArenaContent) (es : List Entry) (h s r sp : ℕ) (clause : List Literal) → IsPropagationInvariant a es h s → AreValidNumberedClauses a → AreValidNumberedClauses (with_clause_added a clause r sp) → contains_reference r a.references
    ≡ false →
    FirstTwoAreWatchable es clause
    → IsPropagationInvariant (with_clause_added a clause r sp) es h s
grown a es h s r sp clause q ka kb fresh ok =
    let other : (c : ℕ) → contains_reference c a.references ≡ true → c ≢ r = λ c known e. true≢false (sym known ∙ ap (λ (x : ℕ). contains_reference x a.references) e ∙ fresh) in
    record {
      head_in = q.head_in;
      settled_in = omega (arith, q.settled_in, length-append a.clauses (clause ∷ []));
      queued = q.queued;
      watched = λ c known. elim (stands-either c a.references (r ∷ []) known) [
        | inl old ↦ old-covered a es h s r sp c clause q ka kb old (other c old)
        | inr new ↦ (let e = stands-one c r new in
            let P : ℕ → Type 0 = λ d. IsCovered (with_clause_added a clause r sp) es h d ⊎ ((s < number_of_clause (with_clause_added a clause r sp) d) × ((x y : Literal) × ClauseMayForceLit (with_clause_added a clause r sp) es h d x y)) in
            subst P (sym e) (new-covered a es h s r sp clause ka kb fresh (ap (λ (d : ℕ). contains_reference d (a.references ++ r ∷ [])) (sym e) ∙ known) q.settled_in ok))
      ];
      short = λ c known few b. elim (stands-either c a.references (r ∷ []) known) [
        | inl old ↦ (let same = old-same a clause r sp c ka kb old in
            ap (is_satisfied es) same.literals ∙ q.short c old (omega (arith, few, same.number)) (omega (arith, b, ap length same.literals)))
        | inr new ↦ absurd (let e = stands-one c r new in
            let n = new-is a clause r sp ka kb in
            let m = ap (number_of_clause (with_clause_added a clause r sp)) e in
            omega (arith, few, n.number, m, q.settled_in))
      ];
    }

pub queue-with_clause_added : (a b : ArenaContent) (es : List Entry) (h s : ℕ) (clause : List Literal) → IsPropagationInvariant a es h s → AreValidNumberedClauses a → AreValidNumberedClauses b → IsClauseAdded a clause b
    → FirstTwoAreWatchable es clause →
    IsPropagationInvariant b es h s
queue-with_clause_added a b es h s clause q ka kb n ok =
    let C : ArenaContent → Type 0 = λ x. AreValidNumberedClauses x in
    let Q : ArenaContent → Type 0 = λ x. IsPropagationInvariant x es h s in
    subst Q (sym n.is) (grown a es h s n.reference b.spare clause q ka (subst C n.is kb) n.fresh ok)
