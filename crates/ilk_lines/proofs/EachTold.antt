-- Lines with a value for each item, and the lines written for these values.
use Rattle.std.proofs.Common.{◌≡◌, ℕ, ◌+◌, Bool, true, false, ◌==◌, All, Option, Some, None, Result, Ok, Err, List, [], ◌∷◌, ◌++◌, drop, length, slice_get, cond, refl, sym, ap, ◌∙◌, arith, suc, zero}
use Rattle.std.specs.Str.{bytes_eq}
use Rattle.std.proofs.lemmas.Bool.Decides.{Decides-eqb}
use Rattle.std.proofs.lemmas.List.Elements.{All-nil, All-cons}
use Rattle.std.proofs.lemmas.Slice.Eq.{bytes_eq-Decides}
use Rattle.ilk_lines.specs.Lines.{Bytes}
use Rattle.ilk_lines.specs.Reading.{ParsedPrefix, expect_first_line, expect_end_of_text, item_values_from_lines, prepend_or_empty}
use Rattle.ilk_lines.specs.Written.{LacksByte, lines_of_items}
use Rattle.ilk_base.proofs.Results.{ok_is}
use Rattle.ilk_lines.proofs.InOrder.{told_with, values_left}

pub each_ok :
    {A : Type 0} (value : ℕ → Bytes → Option A) (items : List ℕ) (n : ℕ) (lines : List Bytes)
    (part : ParsedPrefix A) →
    item_values_from_lines value items n lines ≡ Ok part →
    (part.values ≡ values_left value items lines) × (length part.values ≡ length items)
each_ok {A = A} value items n lines part e = by_count (length (values_left value items lines) == length items) refl e
  where
    whole : ParsedPrefix A
    whole = record { values = values_left value items lines; number = n + length items; lines = drop (length items) lines }

    by_count : (b : Bool) → (length (values_left value items lines) == length items) ≡ b →
        cond {A = Result (ParsedPrefix A) ℕ} b (Ok whole) (Err (n + length (values_left value items lines)))
        ≡ Ok part →
        (part.values ≡ values_left value items lines) × (length part.values ≡ length items)
    by_count true same here =
        let this : whole ≡ part = cc in
        let values : part.values ≡ values_left value items lines = ap (λ (q : ParsedPrefix A). q.values) (sym this) in
        (values, ap length values ∙ (Decides-eqb _ _).0 same)
    by_count false same here = cc

value_first :
    {A : Type 0} (value : ℕ → Bytes → Option A) (x : ℕ) (items : List ℕ) (line : Bytes) (rest : List A)
    (o : Option A) →
    value x line ≡ o →
    ((j : ℕ) (w : A) → slice_get rest j ≡ Some w →
    (y : ℕ) × (other : Bytes) × (slice_get items j ≡ Some y) × (value y other ≡ Some w)) →
    (i : ℕ) (v : A) → slice_get (prepend_or_empty o rest) i ≡ Some v →
    (y : ℕ) × (other : Bytes) × (slice_get (x ∷ items) i ≡ Some y) × (value y other ≡ Some v)
value_first value x items line rest None this later i v e = cc
value_first value x items line rest (Some w) this later zero v e = (x, line, refl, this ∙ e)
value_first value x items line rest (Some w) this later (suc i) v e = later i v e

pub value_at :
    {A : Type 0} (value : ℕ → Bytes → Option A) (items : List ℕ) (lines : List Bytes) (i : ℕ) (v : A) →
    slice_get (values_left value items lines) i ≡ Some v →
    (x : ℕ) × (line : Bytes) × (slice_get items i ≡ Some x) × (value x line ≡ Some v)
value_at value [] lines i v e = cc
value_at value (x ∷ items) [] i v e = cc
value_at value (x ∷ items) (line ∷ lines) i v e = value_first value x items line (values_left value items lines) (value x line) refl (λ j w. value_at value items lines j w) i v e

values_back : {A : Type 0} (value : ℕ → Bytes → Option A) (line_of : ℕ → A → Bytes) (items : List ℕ) (values : List A) (rest : List Bytes) → length values ≡ length items
    → ((i x : ℕ) (v : A) → slice_get items i ≡ Some x → slice_get values i ≡ Some v → value x (line_of x v) ≡ Some v) → values_left value items (lines_of_items line_of items values ++ rest) ≡ values
values_back value line_of [] [] rest same holds = refl
values_back value line_of [] (v ∷ values) rest same holds = cc
values_back value line_of (x ∷ items) [] rest same holds = cc
values_back value line_of (x ∷ items) (v ∷ values) rest same holds =
    ap (λ o. prepend_or_empty o (values_left value items (lines_of_items line_of items values ++ rest))) (holds 0 x v refl refl)
    ∙ ap (λ vs. v ∷ vs) (values_back value line_of items values rest (omega arith) (λ i y w at here. holds (suc i) y w at here))

lines_past : {A : Type 0} (line_of : ℕ → A → Bytes) (items : List ℕ) (values : List A) (rest : List Bytes) → length values ≡ length items → drop (length items) (lines_of_items line_of items values ++ rest) ≡ rest
lines_past line_of [] [] rest same = refl
lines_past line_of [] (v ∷ values) rest same = cc
lines_past line_of (x ∷ items) [] rest same = cc
lines_past line_of (x ∷ items) (v ∷ values) rest same = lines_past line_of items values rest (omega arith)

pub each_back : {A : Type 0} (value : ℕ → Bytes → Option A) (line_of : ℕ → A → Bytes) (items : List ℕ) (values : List A) (n : ℕ) (rest : List Bytes) → length values ≡ length items
    → ((i x : ℕ) (v : A) → slice_get items i ≡ Some x → slice_get values i ≡ Some v → value x (line_of x v) ≡ Some v)
    → item_values_from_lines value items n (lines_of_items line_of items values ++ rest) ≡ Ok (record { values = values; number = n + length items; lines = rest })
each_back value line_of items values n rest same holds =
    let all : (length values == length items) ≡ true = (Decides-eqb (length values) (length items)).1 same in
    ap (told_with items n (lines_of_items line_of items values ++ rest)) (values_back value line_of items values rest same holds)
    ∙ rw (all, lines_past line_of items values rest same) refl

each_lines : {A : Type 0} (value : ℕ → Bytes → Option A) (line_of : ℕ → A → Bytes) →
    ((x : ℕ) (line : Bytes) (v : A) → value x line ≡ Some v → line ≡ line_of x v) →
    (items : List ℕ) (lines : List Bytes) → length (values_left value items lines) ≡ length items →
    lines ≡ lines_of_items line_of items (values_left value items lines) ++ drop (length items) lines
each_lines value line_of holds [] lines all = refl
each_lines value line_of holds (x ∷ items) [] all = cc
each_lines {A = A} value line_of holds (x ∷ items) (line ∷ lines) all = by_value (value x line) refl all (λ fits. each_lines value line_of holds items lines fits)
  where
    by_value : (o : Option A) → value x line ≡ o → length (prepend_or_empty o (values_left value items lines)) ≡ suc (length items)
        → (length (values_left value items lines) ≡ length items → lines ≡ lines_of_items line_of items (values_left value items lines) ++ drop (length items) lines)
        → line ∷ lines ≡ lines_of_items line_of (x ∷ items) (prepend_or_empty o (values_left value items lines)) ++ drop (length items) lines
    by_value None this fits rest = cc
    by_value (Some v) this fits rest =
        let fewer : length (values_left value items lines) ≡ length items = omega arith in
        ap (λ l. l ∷ lines) (holds x line v this) ∙ ap (λ ls. line_of x v ∷ ls) (rest fewer)

each_rest : {A : Type 0} (value : ℕ → Bytes → Option A) (items : List ℕ) (n : ℕ) (lines : List Bytes) (part : ParsedPrefix A) → item_values_from_lines value items n lines ≡ Ok part → part.lines ≡ drop (length items) lines
each_rest {A = A} value items n lines part e = by_count (length (values_left value items lines) == length items) e
  where
    whole : ParsedPrefix A
    whole = record { values = values_left value items lines; number = n + length items; lines = drop (length items) lines }

    by_count : (b : Bool) → cond {A = Result (ParsedPrefix A) ℕ} b (Ok whole) (Err (n + length (values_left value items lines))) ≡ Ok part → part.lines ≡ drop (length items) lines
    by_count true here = ap (λ (q : ParsedPrefix A). q.lines) (sym (ok_is here))
    by_count false here = cc

pub told_lines : {A : Type 0} (value : ℕ → Bytes → Option A) (line_of : ℕ → A → Bytes) →
    ((x : ℕ) (line : Bytes) (v : A) → value x line ≡ Some v → line ≡ line_of x v) →
    (items : List ℕ) (n : ℕ) (lines : List Bytes) (part : ParsedPrefix A) →
    item_values_from_lines value items n lines ≡ Ok part → lines ≡ lines_of_items line_of items part.values ++ part.lines
told_lines value line_of holds items n lines part e =
    let ok = each_ok value items n lines part e in
    each_lines value line_of holds items lines (ap length (sym ok.0) ∙ ok.1)
    ∙ ap (λ vs. lines_of_items line_of items vs ++ drop (length items) lines) (sym ok.0) ∙ ap (λ ls. lines_of_items line_of items part.values ++ ls) (sym (each_rest value items n lines part e))

pub expect_first_line-joins : (wanted : Bytes) (n : ℕ) (lines more : List Bytes) → expect_first_line wanted n lines ≡ Ok more → lines ≡ wanted ∷ more
expect_first_line-joins wanted n [] more e = cc
expect_first_line-joins wanted n (line ∷ lines) more e = by_test (bytes_eq line wanted) refl e
  where
    by_test : (b : Bool) → bytes_eq line wanted ≡ b → cond {A = Result (List Bytes) ℕ} b (Ok lines) (Err n) ≡ Ok more → line ∷ lines ≡ wanted ∷ more
    by_test true same that = ap (λ l. l ∷ lines) ((bytes_eq-Decides line wanted).0 same) ∙ ap (λ ls. wanted ∷ ls) (ok_is that)
    by_test false differs that = cc

pub expect_end_of_text-ends : (n : ℕ) (more : List Bytes) (bytes : Bytes) → expect_end_of_text n more bytes ≡ Ok tt → (more ≡ []) × (bytes ≡ [])
expect_end_of_text-ends n [] [] e = (refl, refl)
expect_end_of_text-ends n [] (b ∷ bytes) e = cc
expect_end_of_text-ends n (line ∷ more) bytes e = cc

pub each_plain : {A : Type 0} (line_of : ℕ → A → Bytes) (items : List ℕ) (values : List A) → ((i x : ℕ) (v : A) → slice_get items i ≡ Some x → slice_get values i ≡ Some v → LacksByte 10 (line_of x v))
    → All (LacksByte 10) (lines_of_items line_of items values)
each_plain line_of [] values holds = All-nil (LacksByte 10)
each_plain line_of (x ∷ items) [] holds = All-nil (LacksByte 10)
each_plain line_of (x ∷ items) (v ∷ values) holds =
    All-cons (LacksByte 10) (line_of x v) (lines_of_items line_of items values) (holds 0 x v refl refl) (each_plain line_of items values (λ i y w at here. holds (suc i) y w at here))
