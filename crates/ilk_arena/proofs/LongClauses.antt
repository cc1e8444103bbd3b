use Rattle.std.proofs.Common.{◌≡◌, ℕ, ◌+◌, ◌*◌, ◌<◌, ◌≤◌, true, List, length, get_or, set, map, ◌++◌, refl, sym, ap, ◌∙◌, Some, arith}
use Rattle.std.specs.List.{slice_get}
use Rattle.std.proofs.lemmas.List.{get_or_read, length-map}
use Rattle.std.proofs.lemmas.Option.{slice_get_read}
use Rattle.ilk_cnf.specs.Literal.{Literal, has_distinct_vars}
use Rattle.ilk_cnf.specs.Formula.{is_clause_over}
use Rattle.ilk_arena.specs.Arena.{ArenaContent, place}
use Rattle.ilk_arena.specs.declared.place.TheConstants.{WORD_VALUE_LIMIT}
use Rattle.ilk_arena.specs.Linked.{references_in_block, lists_of, IsArenaInvariant}
use Rattle.ilk_arena.proofs.Appending.{block}
use Rattle.ilk_arena.proofs.AddedClauses.{Grown, words_long, heads_long, long-law, lit-fits}
use Rattle.ilk_arena.proofs.Readings.{vars-are, spare-are}

-- Facts about literal `i` of a clause: its place fits a word and has a chain.
pub record LiteralRead (hs : List ℕ) (ls : List Literal) (i : ℕ) (l : Literal) : Type 0 where
  pub stands : slice_get ls i ≡ Some l
  pub fits : 2 * l.var + 1 < WORD_VALUE_LIMIT
  pub chained : place l < length hs

pub literal-read :
    {vars count : ℕ} {ws hs : List ℕ} {x : ArenaContent} (old : ℕ) (ls : List Literal) (i : ℕ) (l : Literal) →
    IsArenaInvariant ws hs vars count → lists_of vars old ws hs (references_in_block ws) ≡ x →
    is_clause_over x.vars ls ≡ true → i < length ls → l ≡ get_or ls i l → LiteralRead hs ls i l
literal-read {vars} {count} {ws} {hs} {x} old ls i l h e within below is =
    let within0 = ap (λ (n : ℕ). is_clause_over n ls) (vars-are vars old ws hs x e) ∙ within in
    let s : slice_get ls i ≡ Some l = slice_get_read ls (length ls) i l refl below is in
    let f = lit-fits vars count ws hs ls i l h within0 s in
    record { stands = s; fits = f.0; chained = f.1 }

pub record LongWritten (ws hs us ks : List ℕ) (count reference : ℕ) (ls : List Literal) : Type 0 where
  pub l : Literal
  pub m : Literal
  pub left : ℕ
  pub right : ℕ
  pub left_link : ℕ
  pub right_link : ℕ
  pub l_is : l ≡ get_or ls 0 l
  pub m_is : m ≡ get_or ls 1 m
  pub left_is : left ≡ place l
  pub right_is : right ≡ place m
  pub left_link_is : left_link ≡ get_or hs left left_link
  pub right_link_is : right_link ≡ get_or hs right right_link
  pub reference_is : reference ≡ length ws
  pub words_are : us ≡ ws ++ block (length ls) left left_link right right_link (count + 1) (map place ls)
  pub heads_are : ks ≡ set (set hs left reference) right reference

pub long-grown :
    {vars count reference : ℕ} {ws hs us ks : List ℕ} {ls : List Literal} {x : ArenaContent} (spare old : ℕ) →
    IsArenaInvariant ws hs vars count → lists_of vars old ws hs (references_in_block ws) ≡ x →
    is_clause_over x.vars ls ≡ true → has_distinct_vars ls ≡ true → 2 ≤ length ls → length ls + 8 ≤ x.spare →
    old + length ws ≤ WORD_VALUE_LIMIT → LongWritten ws hs us ks count reference ls →
    Grown vars spare count us ks x ls reference
long-grown {vars} {count} {reference} {ws} {hs} {us} {ks} {ls} {x} spare old h e within differ long room below w =
    let a = literal-read old ls 0 w.l h e within (omega arith) w.l_is in
    let b = literal-read old ls 1 w.m h e within (omega arith) w.m_is in
    let hl = get_or hs (place w.l) 0 in
    let hm = get_or hs (place w.m) 0 in
    let p : w.left_link ≡ hl = get_or_read hs (place w.l) w.left_link a.chained (rw w.left_is at w.left_link_is) 0 in
    let q : w.right_link ≡ hm = get_or_read hs (place w.m) w.right_link b.chained (rw w.right_is at w.right_link_is) 0 in
    let n : length ls ≡ length (map place ls) = sym (length-map ls place) in
    let us-are : us ≡ words_long ws hs ls w.l w.m (count + 1) = (rw (w.left_is, w.right_is, p, q) at w.words_are) ∙ ap (λ (k : ℕ). ws ++ block k (place w.l) hl (place w.m) hm (count + 1) (map place ls)) n in
    let ks-are : ks ≡ heads_long ws hs w.l w.m = rw (w.left_is, w.right_is, w.reference_is) at w.heads_are in
    let within0 = ap (λ (k : ℕ). is_clause_over k ls) (vars-are vars old ws hs x e) ∙ within in
    let fits : length ws + length ls + 7 ≤ WORD_VALUE_LIMIT = omega (arith, spare-are vars old ws hs x e, room, below) in
    rw (w.reference_is, us-are, ks-are) (long-law vars spare old count ws hs x ls w.l w.m h e within0 differ a.stands b.stands fits)
