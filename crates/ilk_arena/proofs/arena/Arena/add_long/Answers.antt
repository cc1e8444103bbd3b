use Rattle.std.proofs.Common.{◌≡◌, ◌+◌, ◌-◌, ◌/◌, ◌≤◌, ℕ, min, length, arith, ap, sym, ◌∙◌, length-append}
use Rattle.std.specs.Vec.{with_items}
use Rattle.std.proofs.lemmas.List.{length-map}
use Rattle.ilk_base.proofs.Lists.{all-written}
use Rattle.ilk_cnf.specs.Formula.{is_clause_over}
use Rattle.ilk_cnf.proofs.Literals.{is_clause_over-more}
use Rattle.ilk_arena.specs.Arena.{ArenaContent, with_clause_added}
use Rattle.ilk_arena.specs.declared.place.TheConstants.{WORD_VALUE_LIMIT}
use Rattle.ilk_arena.proofs.Law.{arena-law}
use Rattle.ilk_arena.proofs.Readings.{vars-are, spare-are, count-fits}
use Rattle.ilk_arena.proofs.AddedClauses.{Grown, new-reference}
use Rattle.ilk_arena.proofs.LongClauses.{LiteralRead, literal-read, long-grown}
use Rattle.ilk_arena.proofs.arena.Arena.add_long.Goals as goal
use Rattle.ilk_arena.proofs.arena.Arena.add_long.Goals.{After-self, After-index-clause-0, After-index-clause-1, After-set_both_heads}

room : (c : After-self) →
    let words = c.self.inside.words in
    length c.args.clause.now + 8 ≤ min words.cap WORD_VALUE_LIMIT - words.len
room c =
    let s = c.self.inside in
    omega (arith, spare-are s.vars _ s.words.items s.heads.items c.args.self.now c.self.view_is, c.requires.room)

left-read : (c : After-index-clause-0) →
    LiteralRead c.self.inside.heads.items c.args.clause.now 0 c.index-clause-0.result
left-read c =
    let ls = c.args.clause.now in
    literal-read _ ls 0 _ c.self.invariant c.self.view_is c.requires.within (omega arith) c.index-clause-0.is

right-read : (c : After-index-clause-1) →
    LiteralRead c.self.inside.heads.items c.args.clause.now 1 c.index-clause-1.result
right-read c =
    let ls = c.args.clause.now in
    literal-read _ ls 1 _ c.self.invariant c.self.view_is c.requires.within (omega arith) c.index-clause-1.is

pub place-left-requires : goal.place-left-requires
place-left-requires c = (left-read c).fits

pub place-right-requires : goal.place-right-requires
place-right-requires c = (right-read c).fits

pub index-left_link-requires : goal.index-left_link-requires
index-left_link-requires c =
    let l = left-read (goal.at.index-left_link-requires c).After-index-clause-0 in
    omega (arith, l.chained, c.place-left.ensures, c.self.inside.heads.ok.0)

pub index-right_link-requires : goal.index-right_link-requires
index-right_link-requires c =
    let m = right-read (goal.at.index-right_link-requires c).After-index-clause-1 in
    omega (arith, m.chained, c.place-right.ensures, c.self.inside.heads.ok.0)

pub overflow_add-self : goal.overflow_add-self
overflow_add-self c =
    let s = c.self.inside in
    let fits = count-fits s.vars s.count s.words.items s.heads.items c.self.invariant in
    omega (arith, fits, room (goal.at.overflow_add-self c).After-self, s.words.ok.0)

pub overflow_cast-clause : goal.overflow_cast-clause
overflow_cast-clause c = omega (arith, room (goal.at.overflow_cast-clause c).After-self)

pub push_clause_words-requires-clause-room : goal.push_clause_words-requires-clause-room
push_clause_words-requires-clause-room c = omega (arith, room (goal.at.push_clause_words-requires-clause-room c).After-self)

pub push_clause_words-requires-clause-within : goal.push_clause_words-requires-clause-within
push_clause_words-requires-clause-within c =
    let s = c.self.inside in
    let ls = c.args.clause.now in
    let vars = vars-are s.vars _ s.words.items s.heads.items c.args.self.now c.self.view_is in
    let within = ap (λ (n : ℕ). is_clause_over n ls) vars ∙ c.requires.within in
    is_clause_over-more s.vars (WORD_VALUE_LIMIT / 2 - 1) ls (omega (arith, c.self.invariant.few)) within

pub set_both_heads-requires-clause-left_in : goal.set_both_heads-requires-clause-left_in
set_both_heads-requires-clause-left_in c =
    let l = left-read (goal.at.set_both_heads-requires-clause-left_in c).After-index-clause-0 in
    rw (c.deref_mut.ensures.value, c.place-left.ensures) l.chained

pub set_both_heads-requires-clause-right_in : goal.set_both_heads-requires-clause-right_in
set_both_heads-requires-clause-right_in c =
    let m = right-read (goal.at.set_both_heads-requires-clause-right_in c).After-index-clause-1 in
    rw (c.deref_mut.ensures.value, c.place-right.ensures) m.chained

pub set_both_heads-requires-clause-fits : goal.set_both_heads-requires-clause-fits
set_both_heads-requires-clause-fits c = omega (arith, room (goal.at.set_both_heads-requires-clause-fits c).After-self, c.len-reference.ensures)

grown : (c : After-set_both_heads) →
    let s = c.self.inside in
    let words = c.push_clause_words.new.words in
    let heads = with_items s.heads c.set_both_heads.new.heads in
    let spare = min words.cap WORD_VALUE_LIMIT - words.len in
    Grown s.vars spare s.count words.items heads.items c.args.self.now c.args.clause.now c.len-reference.result
grown c =
    let s = c.self.inside in
    let asked = c.requires in
    let holds = c.self.invariant in
    let size : length c.set_both_heads.new.heads ≡ s.heads.len = omega (arith, c.set_both_heads.auto.heads, c.deref_mut.ensures.len) in
    long-grown _ _ holds c.self.view_is asked.within asked.differ asked.long asked.room (omega (arith, holds.addressed, s.words.ok.0)) (record {
      l = c.index-clause-0.result;
      m = c.index-clause-1.result;
      left = c.place-left.result;
      right = c.place-right.result;
      left_link = c.index-left_link.result.now;
      right_link = c.index-right_link.result.now;
      l_is = c.index-clause-0.is;
      m_is = c.index-clause-1.is;
      left_is = c.place-left.ensures;
      right_is = c.place-right.ensures;
      left_link_is = c.index-left_link.ensures;
      right_link_is = c.index-right_link.ensures;
      reference_is = omega (arith, c.len-reference.ensures, s.words.ok.0);
      words_are = c.push_clause_words.ensures.items;
      heads_are = all-written s.heads.len c.set_both_heads.new.heads s.heads.items size ∙ rw c.deref_mut.ensures.value at c.set_both_heads.ensures;
    })

pub invariant_of-self : goal.invariant_of-self
invariant_of-self c = (grown (goal.at.invariant_of-self c).After-set_both_heads).holds

pub returns-clause-added : goal.returns-clause-added
returns-clause-added c =
    let g = grown (goal.at.returns-clause-added c).After-set_both_heads in
    let spare = ap (λ (x : ArenaContent). x.spare) g.lists in
    g.lists ∙ ap (with_clause_added c.args.self.now c.args.clause.now c.len-reference.result) (sym spare)

pub returns-clause-fresh : goal.returns-clause-fresh
returns-clause-fresh c =
    let s = c.self.inside in
    let n : c.len-reference.result ≡ length s.words.items = omega (arith, c.len-reference.ensures, s.words.ok.0) in
    rw n (new-reference s.vars _ s.count s.words.items s.heads.items c.args.self.now c.self.invariant c.self.view_is)

pub returns-clause-room : goal.returns-clause-room
returns-clause-room c =
    let s = c.self.inside in
    let g = grown (goal.at.returns-clause-room c).After-set_both_heads in
    let new = ap (λ (x : ArenaContent). x.spare) g.lists in
    let old = spare-are s.vars _ s.words.items s.heads.items c.args.self.now c.self.view_is in
    let size = simp (length-append, length-map) at (ap length c.push_clause_words.ensures.items) in
    omega (arith, new, old, size, c.push_clause_words.ensures.capacity, c.push_clause_words.new.words.ok.0, s.words.ok.0)

pub returns-clause-arena : goal.returns-clause-arena
returns-clause-arena c = arena-law _ _ _ _ _ (grown (goal.at.returns-clause-arena c).After-set_both_heads).holds.linked
