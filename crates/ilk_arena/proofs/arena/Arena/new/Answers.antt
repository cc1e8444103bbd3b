use Rattle.std.proofs.Common.{◌≡◌, ◌+◌, ◌-◌, ◌*◌, ◌∷◌, [], ℕ, min, List, replicate, arith, ap, sym, subst, ◌∙◌}
use Rattle.ilk_arena.specs.Arena.{ArenaContent}
use Rattle.ilk_arena.specs.declared.place.TheConstants.{WORD_VALUE_LIMIT}
use Rattle.ilk_arena.specs.Linked.{lists_of, references_in_block, IsArenaInvariant}
use Rattle.ilk_arena.proofs.Law.{arena-law}
use Rattle.ilk_arena.proofs.Readings.{spare-is}
use Rattle.ilk_arena.proofs.arena.Arena.new.Goals as goal
use Rattle.ilk_arena.proofs.Cursors.{empty-holds, empty-lists}

pub returns-clause-empty : goal.returns-clause-empty
returns-clause-empty c =
    let ws = c.in_ok-vec.field-0 in
    let V = min ws.cap WORD_VALUE_LIMIT - ws.len in
    let hs = c.in_ok-vec-2.field-0.items in
    let w : ws.items ≡ 0 ∷ [] = c.in_ok-vec.ensures.items in
    let h : hs ≡ replicate (2 * c.args.vars + 2) 0 = c.in_ok-vec-2.ensures.items_if_clones_equal (λ y e. e) in
    let Q : ℕ → ArenaContent = λ v. record { vars = c.args.vars; spare = v; references = []; clauses = []; cursors = []; chains = replicate (2 * c.args.vars + 2) [] } in
    let P : List ℕ → List ℕ → Type 0 = λ xs ys. lists_of c.args.vars V xs ys (references_in_block xs) ≡ Q V in
    let one : P ws.items (replicate (2 * c.args.vars + 2) 0) = subst (λ (xs : List ℕ). P xs (replicate (2 * c.args.vars + 2) 0)) (sym w) (empty-lists c.args.vars V) in
    let two : P ws.items hs = subst (λ (ys : List ℕ). P ws.items ys) (sym h) one in
    two ∙ ap Q (sym (spare-is c.args.vars V ws.items hs (references_in_block ws.items)))

pub returns-clause-arena : goal.returns-clause-arena
returns-clause-arena c =
    let ws = c.in_ok-vec.field-0 in
    let V = min ws.cap WORD_VALUE_LIMIT - ws.len in
    let hs = c.in_ok-vec-2.field-0.items in
    let w : ws.items ≡ 0 ∷ [] = c.in_ok-vec.ensures.items in
    let h : hs ≡ replicate (2 * c.args.vars + 2) 0 = c.in_ok-vec-2.ensures.items_if_clones_equal (λ y e. e) in
    let P : List ℕ → List ℕ → Type 0 = λ xs ys. IsArenaInvariant xs ys c.args.vars 0 in
    let one : P ws.items (replicate (2 * c.args.vars + 2) 0) = subst (λ (xs : List ℕ). P xs (replicate (2 * c.args.vars + 2) 0)) (sym w) (empty-holds c.args.vars (omega arith)) in
    let two : P ws.items hs = subst (λ (ys : List ℕ). P ws.items ys) (sym h) one in
    arena-law c.args.vars V ws.items hs (references_in_block ws.items) two.linked
