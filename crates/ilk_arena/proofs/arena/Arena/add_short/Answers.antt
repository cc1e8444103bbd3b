use Rattle.std.proofs.Common.{◌≡◌, ◌+◌, ◌-◌, ◌/◌, ◌++◌, ◌∷◌, ℕ, min, List, length, map, arith, ap, sym, subst, ◌∙◌, length-append}
use Rattle.std.proofs.lemmas.List.{length-map}
use Rattle.ilk_cnf.specs.Formula.{is_clause_over}
use Rattle.ilk_cnf.proofs.Literals.{is_clause_over-more}
use Rattle.ilk_arena.specs.Arena.{place, with_clause_added}
use Rattle.ilk_arena.specs.declared.place.TheConstants.{WORD_VALUE_LIMIT}
use Rattle.ilk_arena.specs.Linked.{lists_of, references_in_block, IsArenaInvariant}
use Rattle.ilk_arena.proofs.Law.{arena-law}
use Rattle.ilk_arena.proofs.Appending.{block}
use Rattle.ilk_arena.proofs.Readings.{vars-are, spare-is, spare-are, count-fits}
use Rattle.ilk_arena.proofs.arena.Arena.add_short.Goals as goal
use Rattle.ilk_arena.proofs.AddedClauses.{short-law, words_short, new-reference}

pub overflow_add-self : goal.overflow_add-self
overflow_add-self c = let s = c.self.inside in omega (arith, count-fits s.vars s.count s.words.items s.heads.items c.self.invariant, spare-are s.vars _ s.words.items s.heads.items c.args.self.now c.self.view_is, c.requires.room, s.words.ok.0)

pub push_clause_words-requires-clause-room : goal.push_clause_words-requires-clause-room
push_clause_words-requires-clause-room c = let s = c.self.inside in omega (arith, spare-are s.vars _ s.words.items s.heads.items c.args.self.now c.self.view_is, c.requires.room)

pub push_clause_words-requires-clause-within : goal.push_clause_words-requires-clause-within
push_clause_words-requires-clause-within c = let s = c.self.inside in
    let within =
    ap (λ (n : ℕ). is_clause_over n c.args.clause.now)
    (vars-are s.vars _ s.words.items s.heads.items c.args.self.now c.self.view_is)
    ∙ c.requires.within in
    is_clause_over-more s.vars (WORD_VALUE_LIMIT / 2 - 1) c.args.clause.now (omega (arith, c.self.invariant.few)) within

pub invariant_of-self : goal.invariant_of-self
invariant_of-self c = let s = c.self.inside in let within = ap (λ (n : ℕ). is_clause_over n c.args.clause.now) (vars-are s.vars _ s.words.items s.heads.items c.args.self.now c.self.view_is) ∙ c.requires.within in
    let V = min c.push_clause_words.new.words.cap WORD_VALUE_LIMIT - c.push_clause_words.new.words.len in
    let ls = c.args.clause.now in
    let len : length ls ≡ length (map place ls) = sym (length-map ls place) in
    let ew : c.push_clause_words.new.words.items ≡ words_short s.words.items ls (s.count + 1) = c.push_clause_words.ensures.items ∙ ap (λ (n : ℕ). s.words.items ++ (n ∷ (0 ∷ (0 ∷ (1 ∷ (0 ∷ ((s.count + 1) ∷ (0 ∷ map place ls)))))))) len in
    let g = short-law s.vars V _ s.count s.words.items s.heads.items c.args.self.now ls c.self.invariant
    c.self.view_is within c.requires.differ c.requires.short
    (omega (
      arith,
      spare-are s.vars _ s.words.items s.heads.items c.args.self.now c.self.view_is,
      c.requires.room,
      s.words.ok.0,
    )) in
    let n : c.len-reference.result ≡ length s.words.items = omega (arith, c.len-reference.ensures, s.words.ok.0) in
    rw ew g.holds

pub returns-clause-added : goal.returns-clause-added
returns-clause-added c = let s = c.self.inside in let within = ap (λ (n : ℕ). is_clause_over n c.args.clause.now) (vars-are s.vars _ s.words.items s.heads.items c.args.self.now c.self.view_is) ∙ c.requires.within in
    let V = min c.push_clause_words.new.words.cap WORD_VALUE_LIMIT - c.push_clause_words.new.words.len in
    let ls = c.args.clause.now in
    let len : length ls ≡ length (map place ls) = sym (length-map ls place) in
    let ew : c.push_clause_words.new.words.items ≡ words_short s.words.items ls (s.count + 1) = c.push_clause_words.ensures.items ∙ ap (λ (n : ℕ). s.words.items ++ (n ∷ (0 ∷ (0 ∷ (1 ∷ (0 ∷ ((s.count + 1) ∷ (0 ∷ map place ls)))))))) len in
    let g = short-law s.vars V _ s.count s.words.items s.heads.items c.args.self.now ls c.self.invariant
    c.self.view_is within c.requires.differ c.requires.short
    (omega (
      arith,
      spare-are s.vars _ s.words.items s.heads.items c.args.self.now c.self.view_is,
      c.requires.room,
      s.words.ok.0,
    )) in
    let n : c.len-reference.result ≡ length s.words.items = omega (arith, c.len-reference.ensures, s.words.ok.0) in
    let us = c.push_clause_words.new.words.items in
    let Q : List ℕ → Type 0 = λ ws. lists_of s.vars V ws s.heads.items (references_in_block ws) ≡ with_clause_added c.args.self.now ls (length s.words.items) V in
    subst Q (sym ew) g.lists ∙ ap (λ (r : ℕ). with_clause_added c.args.self.now ls r V) (sym n) ∙ ap (λ (v : ℕ). with_clause_added c.args.self.now ls c.len-reference.result v) (sym (spare-is s.vars V us s.heads.items (references_in_block us)))

pub returns-clause-fresh : goal.returns-clause-fresh
returns-clause-fresh c = let s = c.self.inside in
    let n : c.len-reference.result ≡ length s.words.items = omega (arith, c.len-reference.ensures, s.words.ok.0) in
    rw n (new-reference s.vars _ s.count s.words.items s.heads.items c.args.self.now c.self.invariant c.self.view_is)

pub returns-clause-room : goal.returns-clause-room
returns-clause-room c = let s = c.self.inside in let within = ap (λ (n : ℕ). is_clause_over n c.args.clause.now) (vars-are s.vars _ s.words.items s.heads.items c.args.self.now c.self.view_is) ∙ c.requires.within in
    let V = min c.push_clause_words.new.words.cap WORD_VALUE_LIMIT - c.push_clause_words.new.words.len in
    let ls = c.args.clause.now in
    let len : length ls ≡ length (map place ls) = sym (length-map ls place) in
    let ew : c.push_clause_words.new.words.items ≡ words_short s.words.items ls (s.count + 1) = c.push_clause_words.ensures.items ∙ ap (λ (n : ℕ). s.words.items ++ (n ∷ (0 ∷ (0 ∷ (1 ∷ (0 ∷ ((s.count + 1) ∷ (0 ∷ map place ls)))))))) len in
    let g = short-law s.vars V _ s.count s.words.items s.heads.items c.args.self.now ls c.self.invariant
    c.self.view_is within c.requires.differ c.requires.short
    (omega (
      arith,
      spare-are s.vars _ s.words.items s.heads.items c.args.self.now c.self.view_is,
      c.requires.room,
      s.words.ok.0,
    )) in
    let n : c.len-reference.result ≡ length s.words.items = omega (arith, c.len-reference.ensures, s.words.ok.0) in
    let us = c.push_clause_words.new.words.items in
    let new = spare-is s.vars V us s.heads.items (references_in_block us) in
    let old = spare-are s.vars _ s.words.items s.heads.items c.args.self.now c.self.view_is in
    let size = ap (λ (ws : List ℕ). length ws) ew ∙ length-append s.words.items (block (length (map place ls)) 0 0 1 0 (s.count + 1) (map place ls)) in
    omega (arith, new, old, size, length-map ls place, c.push_clause_words.ensures.capacity, c.push_clause_words.new.words.ok.0, s.words.ok.0)

pub returns-clause-arena : goal.returns-clause-arena
returns-clause-arena c = let s = c.self.inside in let within = ap (λ (n : ℕ). is_clause_over n c.args.clause.now) (vars-are s.vars _ s.words.items s.heads.items c.args.self.now c.self.view_is) ∙ c.requires.within in
    let V = min c.push_clause_words.new.words.cap WORD_VALUE_LIMIT - c.push_clause_words.new.words.len in
    let ls = c.args.clause.now in
    let len : length ls ≡ length (map place ls) = sym (length-map ls place) in
    let ew : c.push_clause_words.new.words.items ≡ words_short s.words.items ls (s.count + 1) = c.push_clause_words.ensures.items ∙ ap (λ (n : ℕ). s.words.items ++ (n ∷ (0 ∷ (0 ∷ (1 ∷ (0 ∷ ((s.count + 1) ∷ (0 ∷ map place ls)))))))) len in
    let g = short-law s.vars V _ s.count s.words.items s.heads.items c.args.self.now ls c.self.invariant
    c.self.view_is within c.requires.differ c.requires.short
    (omega (
      arith,
      spare-are s.vars _ s.words.items s.heads.items c.args.self.now c.self.view_is,
      c.requires.room,
      s.words.ok.0,
    )) in
    let n : c.len-reference.result ≡ length s.words.items = omega (arith, c.len-reference.ensures, s.words.ok.0) in
    let us = c.push_clause_words.new.words.items in
    let Q : List ℕ → Type 0 = λ ws. IsArenaInvariant ws s.heads.items s.vars (s.count + 1) in
    arena-law s.vars V us s.heads.items (references_in_block us) (subst Q (sym ew) g.holds).linked
