-- Three clauses over three variables, and a moved watch.
use Rattle.std.proofs.Common.{◌≡◌, ◌*◌, ◌+◌, [], ◌∷◌, replicate, refl, Some}
use Rattle.ilk_cnf.specs.Literal.{positive_lit, negative_lit}
use Rattle.ilk_arena.specs.Arena.{ArenaContent, chain_of, with_clause_added, with_watch_moved, other_watch_of, number_of_clause}

abbrev none : ArenaContent
none = record { vars = 3; spare = 40; references = []; clauses = []; cursors = []; chains = replicate (2 * 3 + 2) [] }

-- (1 2) at 10, (1 -2) at 20, (1 2 3) at 30.
abbrev three : ArenaContent
three = with_clause_added (with_clause_added (with_clause_added none (positive_lit 1 ∷ (positive_lit 2 ∷ [])) 10 30) (positive_lit 1 ∷ (negative_lit 2 ∷ [])) 20 20) (positive_lit 1 ∷ (positive_lit 2 ∷ (positive_lit 3 ∷ []))) 30 9

chain-of-1 : chain_of three (positive_lit 1) ≡ 30 ∷ (20 ∷ (10 ∷ []))
chain-of-1 = refl

chain-of-2 : chain_of three (positive_lit 2) ≡ 30 ∷ (10 ∷ [])
chain-of-2 = refl

chain-of-not-2 : chain_of three (negative_lit 2) ≡ 20 ∷ []
chain-of-not-2 = refl

chain-of-3 : chain_of three (positive_lit 3) ≡ []
chain-of-3 = refl

other-watch : other_watch_of three 30 (positive_lit 1) ≡ Some (positive_lit 2)
other-watch = refl

third : number_of_clause three 30 ≡ 3
third = refl

-- The third clause watches 3 in place of 1.
abbrev after-move : ArenaContent
after-move = with_watch_moved three 30 (positive_lit 1) (positive_lit 3)

moved-chain-of-1 : chain_of after-move (positive_lit 1) ≡ 20 ∷ (10 ∷ [])
moved-chain-of-1 = refl

moved-chain-of-2 : chain_of after-move (positive_lit 2) ≡ 30 ∷ (10 ∷ [])
moved-chain-of-2 = refl

moved-chain-of-not-2 : chain_of after-move (negative_lit 2) ≡ 20 ∷ []
moved-chain-of-not-2 = refl

moved-chain-of-3 : chain_of after-move (positive_lit 3) ≡ 30 ∷ []
moved-chain-of-3 = refl
