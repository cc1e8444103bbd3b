-- The lines of a text up to a line feed, and their beginnings.
use Rattle.std.proofs.Common.{◌≡◌, Bool, true, false, ◌==◌, ◌&&◌, ◌||◌, List, [], ◌∷◌, ◌++◌, cond, drop, length, refl, sym, ap, ◌∙◌, append_assoc}
use Rattle.std.specs.List.{list_all, onto_first, starts_with}
use Rattle.std.proofs.lemmas.Bool.{and_parts}
use Rattle.std.proofs.lemmas.Bool.Decides.{Decides-eqb}
use Rattle.std.proofs.lemmas.List.Folds.{list_all-append}
use Rattle.std.proofs.lemmas.Slice.Eq.{starts_is}
use Rattle.ilk_lines.specs.Lines.{Bytes, lines_of, parts_at, parts_but_last}
use Rattle.ilk_lines.proofs.Cuts.{parts_follow}
use Rattle.ilk_answers.specs.Strict.{LinesHaveBeginnings, has_one_of_beginnings, lines_have_beginnings}

-- Holds if the first of the lines of `text`, a line feed and `rest` is a prefix of `text`.
pub record IsFirstOf (text : Bytes) (rest : Bytes) : Type 0 where
  pub line : Bytes
  pub left : Bytes
  pub more : List Bytes
  pub prefix : text ≡ line ++ left
  pub lines : lines_of (text ++ 10 ∷ rest) ≡ line ∷ (more ++ lines_of rest)

pub first-line : (text rest : Bytes) → IsFirstOf text rest
first-line [] rest = at_end (parts_follow 10 rest)
  where
    at_end : ((part : Bytes) × (parts : List Bytes) × (parts_at 10 rest ≡ part ∷ parts)) → IsFirstOf [] rest
    at_end (part, parts, follows) = record { line = []; left = []; more = []; prefix = refl; lines = rw follows refl }
first-line (x ∷ text) rest = by_byte (x == 10) refl (first-line text rest)
  where
    whole : Bytes
    whole = text ++ 10 ∷ rest

    by_byte : (b : Bool) → (x == 10) ≡ b → IsFirstOf text rest → IsFirstOf (x ∷ text) rest
    by_byte true same after = record {
      line = [];
      left = x ∷ text;
      more = after.line ∷ after.more;
      prefix = refl;
      lines = ends (parts_follow 10 whole);
    }
      where
        ends : ((part : Bytes) × (parts : List Bytes) × (parts_at 10 whole ≡ part ∷ parts)) → parts_but_last (cond (x == 10) ([] ∷ parts_at 10 whole) (onto_first x (parts_at 10 whole))) ≡ [] ∷ (after.line ∷ after.more ++ lines_of rest)
        ends (part, parts, follows) = rw same (ap (λ ps. parts_but_last ([] ∷ ps)) follows ∙ ap (λ ps. [] ∷ parts_but_last ps) (sym follows) ∙ ap (λ ls. [] ∷ ls) after.lines)
    by_byte false differs after = record {
      line = x ∷ after.line;
      left = after.left;
      more = after.more;
      prefix = ap (λ bytes. x ∷ bytes) after.prefix;
      lines = grows (parts_at 10 whole) refl after.lines;
    }
      where
        grows : (parts : List Bytes) → parts_at 10 whole ≡ parts →
            parts_but_last parts ≡ after.line ∷ (after.more ++ lines_of rest) →
            parts_but_last (cond (x == 10) ([] ∷ parts_at 10 whole) (onto_first x (parts_at 10 whole)))
            ≡ (x ∷ after.line) ∷ (after.more ++ lines_of rest)
        grows [] is lines = absurd (cc)
        grows (part ∷ []) is lines = absurd (cc)
        grows (part ∷ next ∷ parts) is lines =
            let first : part ≡ after.line = cc in
            let others : parts_but_last (next ∷ parts) ≡ after.more ++ lines_of rest = cc in
            rw (differs, is) (ap (λ l. (x ∷ l) ∷ parts_but_last (next ∷ parts)) first ∙ ap (λ ls. (x ∷ after.line) ∷ ls) others)

begins-more : (line left beginning : Bytes) → starts_with ◌==◌ line beginning ≡ true → starts_with ◌==◌ (line ++ left) beginning ≡ true
begins-more line left beginning h =
    let split : line ≡ beginning ++ drop (length beginning) line = (starts_is Decides-eqb line beginning (starts_with ◌==◌ line beginning) refl).0 h in
    (starts_is Decides-eqb (line ++ left) beginning (starts_with ◌==◌ (line ++ left) beginning) refl).1 (drop (length beginning) line ++ left) (ap (λ l. l ++ left) split ∙ append_assoc beginning (drop (length beginning) line) left)

or-holds : (a b c d : Bool) → (a ≡ true → c ≡ true) → (b ≡ true → d ≡ true) → (a || b) ≡ true → (c || d) ≡ true
or-holds true b c d first later e = rw (first refl) refl
or-holds false b true d first later e = refl
or-holds false b false d first later e = later e

has_one_of_beginnings-more : (beginnings : List Bytes) (line left : Bytes) → has_one_of_beginnings beginnings line ≡ true → has_one_of_beginnings beginnings (line ++ left) ≡ true
has_one_of_beginnings-more [] line left h = h
has_one_of_beginnings-more (beginning ∷ beginnings) line left h =
    or-holds (starts_with ◌==◌ line beginning) (has_one_of_beginnings beginnings line) (starts_with ◌==◌ (line ++ left) beginning) (has_one_of_beginnings beginnings (line ++ left)) (begins-more line left beginning)
    (has_one_of_beginnings-more beginnings line left) h

pub lines-begin : (beginnings : List Bytes) (text rest : Bytes) → lines_have_beginnings beginnings (text ++ 10 ∷ rest) ≡ true → (has_one_of_beginnings beginnings text ≡ true) × (lines_have_beginnings beginnings rest ≡ true)
lines-begin beginnings text rest h =
    let first : IsFirstOf text rest = first-line text rest in
    let each : list_all (has_one_of_beginnings beginnings) (first.line ∷ (first.more ++ lines_of rest)) ≡ true = sym (ap (list_all (has_one_of_beginnings beginnings)) first.lines) ∙ h in
    let parts = and_parts (has_one_of_beginnings beginnings first.line) (list_all (has_one_of_beginnings beginnings) (first.more ++ lines_of rest)) each in
    let others = and_parts (list_all (has_one_of_beginnings beginnings) first.more) (list_all (has_one_of_beginnings beginnings) (lines_of rest)) (sym (list_all-append (has_one_of_beginnings beginnings) first.more (lines_of rest)) ∙ parts.1) in
    (ap (has_one_of_beginnings beginnings) first.prefix ∙ has_one_of_beginnings-more beginnings first.line first.left parts.0, others.1)

begins-narrower : (narrower allowed : List Bytes) (line : Bytes) → list_all (has_one_of_beginnings narrower) allowed ≡ true → has_one_of_beginnings allowed line ≡ true → has_one_of_beginnings narrower line ≡ true
begins-narrower narrower [] line each h = absurd (cc)
begins-narrower narrower (beginning ∷ allowed) line each h =
    let parts = and_parts (has_one_of_beginnings narrower beginning) (list_all (has_one_of_beginnings narrower) allowed) each in
    by_first (starts_with ◌==◌ line beginning) refl parts.0 (begins-narrower narrower allowed line parts.1) h
  where
    by_first : (b : Bool) → starts_with ◌==◌ line beginning ≡ b → has_one_of_beginnings narrower beginning ≡ true → (has_one_of_beginnings allowed line ≡ true → has_one_of_beginnings narrower line ≡ true) → (b || has_one_of_beginnings allowed line)
        ≡ true
        → has_one_of_beginnings narrower line ≡ true
    by_first true here own later e =
        let split : line ≡ beginning ++ drop (length beginning) line = (starts_is Decides-eqb line beginning (starts_with ◌==◌ line beginning) refl).0 here in
        ap (has_one_of_beginnings narrower) split ∙ has_one_of_beginnings-more narrower beginning (drop (length beginning) line) own
    by_first false here own later e = later e

pub lines-narrower : (narrower allowed : List Bytes) (report : Bytes) → list_all (has_one_of_beginnings narrower) allowed ≡ true → LinesHaveBeginnings allowed report → LinesHaveBeginnings narrower report
lines-narrower narrower allowed report each h = record { each = of_lines (lines_of report) h.each }
  where
    both : (x y : Bool) → x ≡ true → y ≡ true → (x && y) ≡ true
    both true y first later = later
    both false y first later = absurd (cc)

    of_lines : (lines : List Bytes) → list_all (has_one_of_beginnings allowed) lines ≡ true → list_all (has_one_of_beginnings narrower) lines ≡ true
    of_lines [] e = refl
    of_lines (line ∷ lines) e =
        let parts = and_parts (has_one_of_beginnings allowed line) (list_all (has_one_of_beginnings allowed) lines) e in
        both (has_one_of_beginnings narrower line) (list_all (has_one_of_beginnings narrower) lines) (begins-narrower narrower allowed line each parts.0) (of_lines lines parts.1)
