use Rattle.std.proofs.Common.{◌≡◌, ◌-◌, ℕ, min, arith, ap, sym, ◌∙◌}
use Rattle.ilk_arena.specs.declared.place.TheConstants.{WORD_VALUE_LIMIT}
use Rattle.ilk_arena.specs.Linked.{lists_of, references_in_block}
use Rattle.ilk_arena.proofs.Readings.{spare-is, spare-change}
use Rattle.ilk_arena.proofs.arena.Arena.reserve.Goals as goal

pub returns-clause-room : goal.returns-clause-room
returns-clause-room c =
    let s = c.self.inside in
    let new = spare-is s.vars (min c.reserve.new.self.cap WORD_VALUE_LIMIT - c.reserve.new.self.len) c.reserve.new.self.items s.heads.items (references_in_block c.reserve.new.self.items) in
    omega (arith, new, c.in_ok-reserve.ensures.ok)

pub returns-clause-same : goal.returns-clause-same
returns-clause-same c =
    let s = c.self.inside in
    let V = min c.reserve.new.self.cap WORD_VALUE_LIMIT - c.reserve.new.self.len in
    let us = c.reserve.new.self.items in
    let e : lists_of s.vars V us s.heads.items (references_in_block us) ≡ record c.args.self.now { spare = V } = rw c.reserve.ensures.items (spare-change s.vars _ V s.words.items s.heads.items c.args.self.now c.self.view_is) in
    e ∙ ap (λ (v : ℕ). record c.args.self.now { spare = v }) (sym (spare-is s.vars V us s.heads.items (references_in_block us)))
