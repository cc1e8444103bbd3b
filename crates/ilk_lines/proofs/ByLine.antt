-- Readers that fail at a line because of the lines up to it, and never at one that can be
-- completed.
use Rattle.std.proofs.Common.{◌≡◌, ℕ, ◌+◌, ◌<◌, ◌≤◌, Bool, true, false, ◌==◌, Option, Some, None, Result, Ok, Err, List, [], ◌∷◌, ◌++◌, cond, drop, length, slice_get, take, refl, sym, ap, ◌∙◌, arith, subst, suc, zero}
use Rattle.std.specs.Str.{bytes_eq}
use Rattle.std.proofs.lemmas.Bool.Decides.{nat_tests}
use Rattle.std.proofs.lemmas.Slice.Eq.{bytes_eq-Decides}
use Rattle.ilk_base.specs.Result.{◌>>=◌}
use Rattle.ilk_lines.specs.Lines.{Bytes}
use Rattle.ilk_lines.specs.Reading.{ParsedPrefix, expect_first_line, item_values_from_lines, leading_values, prepend_or_empty}
use Rattle.ilk_base.proofs.Results.{err_is}
use Rattle.ilk_lines.proofs.InOrder.{told_with, values_left}

-- A reader of lines and of the bytes after them.
abbrev pub Reader : Type 0 → Type 0
Reader T = List Bytes → Bytes → Result T ℕ

-- Holds if the reader succeeds on some lines.
abbrev pub Fills : {T : Type 0} → Reader T → Type 0
Fills {T} read = (more : List Bytes) × (t : T) × (read more [] ≡ Ok t)

-- Holds if the reader fails at line `m`, whatever follows it, and the lines before it can be
-- completed. Lines are numbered from `n`.
pub record FailsAt {T : Type 0} (n : ℕ) (read : Reader T) (lines : List Bytes) (m : ℕ) : Type 0 where
  pub passed : ℕ
  pub at : m ≡ n + passed
  pub within : passed ≤ length lines
  pub seen : passed < length lines → (more : List Bytes) (bytes : Bytes) → read (take (suc passed) lines ++ more) bytes ≡ Err m
  pub before : Fills (λ more bytes. read (take passed lines ++ more) bytes)

-- Holds if the reader can be completed, and any failure is at a line.
pub record IsByLine {T : Type 0} (n : ℕ) (read : Reader T) : Type 0 where
  pub fills : Fills read
  pub fails : (lines : List Bytes) (bytes : Bytes) (m : ℕ) → read lines bytes ≡ Err m → FailsAt n read lines m

pub fails_first : {T : Type 0} (n m : ℕ) (read : Reader T) (lines : List Bytes) → m ≡ n → (0 < length lines → (more : List Bytes) (bytes : Bytes) → read (take 1 lines ++ more) bytes ≡ Err m) → Fills read → FailsAt n read lines m
fails_first n m read lines same seen fills = record { passed = zero; at = omega (arith, same); within = omega arith; seen = seen; before = fills }

pub fails_next : {T : Type 0} (n m : ℕ) (read next : Reader T) (line : Bytes) (lines : List Bytes) → ((more : List Bytes) (bytes : Bytes) → read (line ∷ more) bytes ≡ next more bytes) → FailsAt (n + 1) next lines m → FailsAt n read (line ∷ lines) m
fails_next n m read next line lines goes fails = record {
  passed = suc fails.passed;
  at = omega (arith, fails.at);
  within = omega (arith, fails.within);
  seen = λ more_lines more bytes. goes (take (suc fails.passed) lines ++ more) bytes ∙ fails.seen (omega arith) more bytes;
  before = (fails.before.0, fails.before.1, goes (take fails.passed lines ++ fails.before.0) [] ∙ fails.before.2);
}

same_bytes : (bytes : Bytes) → bytes_eq bytes bytes ≡ true
same_bytes bytes = (bytes_eq-Decides bytes bytes).1 refl

abbrev pub after_then : {T : Type 0} → Bytes → ℕ → Reader T → Reader T
after_then wanted n next lines bytes = expect_first_line wanted n lines >>= (λ more. next more bytes)

after_passes : {T : Type 0} (wanted : Bytes) (n : ℕ) (next : Reader T) (line : Bytes) → bytes_eq line wanted ≡ true → (more : List Bytes) (bytes : Bytes) → after_then wanted n next (line ∷ more) bytes ≡ next more bytes
after_passes wanted n next line same more bytes = ap (λ b. cond {A = Result (List Bytes) ℕ} b (Ok more) (Err n) >>= (λ ls. next ls bytes)) same

after_refuses : {T : Type 0} (wanted : Bytes) (n : ℕ) (next : Reader T) (line : Bytes) → bytes_eq line wanted ≡ false → (more : List Bytes) (bytes : Bytes) → after_then wanted n next (line ∷ more) bytes ≡ Err n
after_refuses wanted n next line differs more bytes = ap (λ b. cond {A = Result (List Bytes) ℕ} b (Ok more) (Err n) >>= (λ ls. next ls bytes)) differs

after_fills : {T : Type 0} (wanted : Bytes) (n : ℕ) (next : Reader T) → Fills next → Fills (after_then wanted n next)
after_fills wanted n next (more, t, e) = (wanted ∷ more, t, after_passes wanted n next wanted (same_bytes wanted) more [] ∙ e)

pub after_by_line : {T : Type 0} (wanted : Bytes) (n : ℕ) (next : Reader T) → IsByLine (n + 1) next → IsByLine n (after_then wanted n next)
after_by_line wanted n next by = record { fills = after_fills wanted n next by.fills; fails = fails }
  where
    fails : (lines : List Bytes) (bytes : Bytes) (m : ℕ) → after_then wanted n next lines bytes ≡ Err m → FailsAt n (after_then wanted n next) lines m
    fails [] bytes m e = fails_first n m (after_then wanted n next) [] (sym (err_is e)) (λ some. absurd (omega arith)) (after_fills wanted n next by.fills)
    fails (line ∷ lines) bytes m e = by_test (bytes_eq line wanted) refl
      where
        by_test : (b : Bool) → bytes_eq line wanted ≡ b → FailsAt n (after_then wanted n next) (line ∷ lines) m
        by_test true same = fails_next n m (after_then wanted n next) next line lines (after_passes wanted n next line same) (by.fails lines bytes m (sym (after_passes wanted n next line same lines bytes) ∙ e))
        by_test false differs =
            let here : n ≡ m = err_is (sym (after_refuses wanted n next line differs lines bytes) ∙ e) in
            fails_first n m (after_then wanted n next) (line ∷ lines) (sym here) (λ some more others. after_refuses wanted n next line differs more others ∙ ap (λ k. Err k) here) (after_fills wanted n next by.fills)

abbrev with_value : {A : Type 0} → A → ParsedPrefix A → ParsedPrefix A
with_value v part = record part { values = v ∷ part.values }

abbrev pub each_then : {A T : Type 0} → (ℕ → Bytes → Option A) → List ℕ → ℕ → (ParsedPrefix A → Bytes → Result T ℕ) → Reader T
each_then value items n next lines bytes = item_values_from_lines value items n lines >>= (λ part. next part bytes)

abbrev pub part_reader : {A T : Type 0} → (ParsedPrefix A → Bytes → Result T ℕ) → List A → ℕ → Reader T
part_reader next values number lines bytes = next (record { values = values; number = number; lines = lines }) bytes

none_enough : (k : ℕ) → (0 == suc k) ≡ false
none_enough k = grind (arith, nat_tests)

no_values : {A : Type 0} (x : ℕ) (items : List ℕ) (n : ℕ) (lines : List Bytes) → told_with {A = A} (x ∷ items) n lines [] ≡ Err (n + 0)
no_values {A = A} x items n lines =
    ap (λ b. cond {A = Result (ParsedPrefix A) ℕ} b (Ok (record { values = []; number = n + length (x ∷ items); lines = drop (length (x ∷ items)) lines })) (Err (n + 0))) (none_enough (length items))

each_missing : {A T : Type 0} (value : ℕ → Bytes → Option A) (x : ℕ) (items : List ℕ) (n : ℕ) (next : ParsedPrefix A → Bytes → Result T ℕ) (bytes : Bytes) → each_then value (x ∷ items) n next [] bytes ≡ Err (n + 0)
each_missing {A = A} value x items n next bytes = ap (λ (r : Result (ParsedPrefix A) ℕ). r >>= (λ part. next part bytes)) (no_values x items n [])

each_refuses :
    {A T : Type 0} (value : ℕ → Bytes → Option A) (x : ℕ) (items : List ℕ) (n : ℕ)
    (next : ParsedPrefix A → Bytes → Result T ℕ) (line : Bytes) →
    value x line ≡ None → (more : List Bytes) (bytes : Bytes) →
    each_then value (x ∷ items) n next (line ∷ more) bytes ≡ Err (n + 0)
each_refuses {A = A} value x items n next line none more bytes =
    ap (λ (o : Option A). told_with (x ∷ items) n (line ∷ more) (prepend_or_empty o (values_left value items more)) >>= (λ part. next part bytes)) none
    ∙ ap (λ (r : Result (ParsedPrefix A) ℕ). r >>= (λ part. next part bytes)) (no_values x items n (line ∷ more))

told_more : {A T : Type 0} (x : ℕ) (items : List ℕ) (n : ℕ) (line : Bytes) (more : List Bytes) (v : A) (values : List A) (next : ParsedPrefix A → Bytes → Result T ℕ) (bytes : Bytes)
    → (told_with (x ∷ items) n (line ∷ more) (v ∷ values) >>= (λ part. next part bytes)) ≡ (told_with items (n + 1) more values >>= (λ part. next (with_value v part) bytes))
told_more {A = A} x items n line more v values next bytes = by_count (length values == length items) refl
  where
    by_count : (b : Bool) → (length values == length items) ≡ b → (told_with (x ∷ items) n (line ∷ more) (v ∷ values) >>= (λ part. next part bytes)) ≡ (told_with items (n + 1) more values >>= (λ part. next (with_value v part) bytes))
    by_count true same =
        let longer : (length (v ∷ values) == length (x ∷ items)) ≡ true = grind (arith, nat_tests) in
        let number : n + length (x ∷ items) ≡ n + 1 + length items = omega arith in
        rw (longer, same) (ap (λ k. next (record { values = v ∷ values; number = k; lines = drop (length items) more }) bytes) number)
    by_count false differs =
        let longer : (length (v ∷ values) == length (x ∷ items)) ≡ false = grind (arith, nat_tests) in
        let number : n + length (v ∷ values) ≡ n + 1 + length values = omega arith in
        rw (longer, differs) (ap (λ k. Err k) number)

each_goes :
    {A T : Type 0} (value : ℕ → Bytes → Option A) (x : ℕ) (items : List ℕ) (n : ℕ)
    (next : ParsedPrefix A → Bytes → Result T ℕ) (line : Bytes) (v : A) →
    value x line ≡ Some v → (more : List Bytes) (bytes : Bytes) →
    each_then value (x ∷ items) n next (line ∷ more) bytes
    ≡ each_then value items (n + 1) (λ part. next (with_value v part)) more bytes
each_goes value x items n next line v some more bytes =
    ap (λ o. told_with (x ∷ items) n (line ∷ more) (prepend_or_empty o (values_left value items more)) >>= (λ part. next part bytes)) some
    ∙ told_more x items n line more v (values_left value items more) next bytes

abbrev pub HasLine : {A : Type 0} → (ℕ → Bytes → Option A) → ℕ → Type 0
HasLine {A} value x = (line : Bytes) × (v : A) × (value x line ≡ Some v)

each_more :
    {A T : Type 0} (value : ℕ → Bytes → Option A) (x : ℕ) (items : List ℕ) (n : ℕ)
    (next : ParsedPrefix A → Bytes → Result T ℕ) →
    HasLine value x →
    ((v : A) → IsByLine (n + 1) (each_then value items (n + 1) (λ part. next (with_value v part)))) →
    IsByLine n (each_then value (x ∷ items) n next)
each_more {A = A} value x items n next own rest = record { fills = fills; fails = fails }
  where
    fills : Fills (each_then value (x ∷ items) n next)
    fills =
        let more = (rest own.1).fills in
        (own.0 ∷ more.0, more.1, each_goes value x items n next own.0 own.1 own.2 more.0 [] ∙ more.2)

    by_value : (line : Bytes) (lines : List Bytes) (bytes : Bytes) (m : ℕ) → each_then value (x ∷ items) n next (line ∷ lines) bytes ≡ Err m → (o : Option A) → value x line ≡ o → FailsAt n (each_then value (x ∷ items) n next) (line ∷ lines) m
    by_value line lines bytes m e None none =
        let here : n + 0 ≡ m = err_is (sym (each_refuses value x items n next line none lines bytes) ∙ e) in
        fails_first n m (each_then value (x ∷ items) n next) (line ∷ lines) (omega (arith, here)) (λ some more others. each_refuses value x items n next line none more others ∙ ap (λ k. Err k) here) fills
    by_value line lines bytes m e (Some v) some =
        fails_next n m (each_then value (x ∷ items) n next) (each_then value items (n + 1) (λ part. next (with_value v part))) line lines (each_goes value x items n next line v some)
        ((rest v).fails lines bytes m (sym (each_goes value x items n next line v some lines bytes) ∙ e))

    fails : (lines : List Bytes) (bytes : Bytes) (m : ℕ) → each_then value (x ∷ items) n next lines bytes ≡ Err m → FailsAt n (each_then value (x ∷ items) n next) lines m
    fails [] bytes m e =
        let here : n + 0 ≡ m = err_is (sym (each_missing value x items n next bytes) ∙ e) in
        fails_first n m (each_then value (x ∷ items) n next) [] (omega (arith, here)) (λ some. absurd (omega arith)) fills
    fails (line ∷ lines) bytes m e = by_value line lines bytes m e (value x line) refl

pub each_by_line :
    {A T : Type 0} (value : ℕ → Bytes → Option A) (items : List ℕ) (n : ℕ)
    (next : ParsedPrefix A → Bytes → Result T ℕ) →
    ((i x : ℕ) → slice_get items i ≡ Some x → HasLine value x) →
    ((values : List A) → IsByLine (n + length items) (part_reader next values (n + length items))) →
    IsByLine n (each_then value items n next)
each_by_line {A = A} value [] n next has by =
    let P : ℕ → Type 0 = λ k. IsByLine k (part_reader next [] (n + 0)) in
    let same : n + 0 ≡ n = omega arith in
    subst P same (by [])
each_by_line {A = A} value (x ∷ items) n next has by =
    let same : n + length (x ∷ items) ≡ n + 1 + length items = omega arith in
    each_more value x items n next (has zero x refl) (λ v. each_by_line value items (n + 1) (λ part. next (with_value v part)) (λ i y at. has (suc i) y at)
    (λ values. let P : ℕ → Type 0 = λ k. IsByLine k (part_reader next (v ∷ values) k) in subst P same (by (v ∷ values))))

abbrev taken_then : {A T : Type 0} → Bytes → ℕ → (List A → ℕ → Reader T) → List Bytes → Bytes → List A → Result T ℕ
taken_then wanted n next lines bytes values = expect_first_line wanted (n + length values) (drop (length values) lines) >>= (λ more. next values (n + length values + 1) more bytes)

abbrev pub leading_then : {A T : Type 0} → (Bytes → Option A) → Bytes → ℕ → (List A → ℕ → Reader T) → Reader T
leading_then value wanted n next lines bytes = taken_then wanted n next lines bytes (leading_values value lines)

leading_goes :
    {A T : Type 0} (value : Bytes → Option A) (wanted : Bytes) (n : ℕ) (next : List A → ℕ → Reader T)
    (line : Bytes) (v : A) →
    value line ≡ Some v → (more : List Bytes) (bytes : Bytes) →
    leading_then value wanted n next (line ∷ more) bytes
    ≡ leading_then value wanted (n + 1) (λ values. next (v ∷ values)) more bytes
leading_goes {A = A} value wanted n next line v some more bytes =
    let values : List A = leading_values value more in
    let number : n + length (v ∷ values) ≡ n + 1 + length values = omega arith in
    ap (λ (o : Option A). taken_then wanted n next (line ∷ more) bytes (prepend_or_empty o values)) some
    ∙ ap (λ k. expect_first_line wanted k (drop (length values) more) >>= (λ ls. next (v ∷ values) (k + 1) ls bytes)) number

leading_stops :
    {A T : Type 0} (value : Bytes → Option A) (wanted : Bytes) (n : ℕ) (next : List A → ℕ → Reader T)
    (line : Bytes) →
    value line ≡ None → (more : List Bytes) (bytes : Bytes) →
    leading_then value wanted n next (line ∷ more) bytes
    ≡ after_then wanted n (next [] (n + 1)) (line ∷ more) bytes
leading_stops {A = A} value wanted n next line none more bytes =
    let number : n + 0 ≡ n = omega arith in
    ap (λ (o : Option A). taken_then wanted n next (line ∷ more) bytes (prepend_or_empty o (leading_values value more))) none
    ∙ ap (λ k. expect_first_line wanted k (line ∷ more) >>= (λ ls. next [] (k + 1) ls bytes)) number

leading_fills : {A T : Type 0} (value : Bytes → Option A) (wanted : Bytes) (n : ℕ) (next : List A → ℕ → Reader T) → value wanted ≡ None → Fills (next [] (n + 1)) → Fills (leading_then value wanted n next)
leading_fills value wanted n next none (more, t, e) =
    (wanted ∷ more, t, leading_stops value wanted n next wanted none more [] ∙ after_passes wanted n (next [] (n + 1)) wanted (same_bytes wanted) more [] ∙ e)

leading_fails : {A T : Type 0} (value : Bytes → Option A) (wanted : Bytes) → value wanted ≡ None →
    (lines : List Bytes) (n : ℕ) (next : List A → ℕ → Reader T) →
    ((values : List A) (number : ℕ) → IsByLine number (next values number)) → (bytes : Bytes) (m : ℕ) →
    leading_then value wanted n next lines bytes ≡ Err m →
    FailsAt n (leading_then value wanted n next) lines m
leading_fails value wanted none [] n next by bytes m e =
    let here : n + 0 ≡ m = err_is e in
    fails_first n m (leading_then value wanted n next) [] (omega (arith, here)) (λ some. absurd (omega arith)) (leading_fills value wanted n next none (by [] (n + 1)).fills)
leading_fails {A = A} value wanted none (line ∷ lines) n next by bytes m e =
    by_value (value line) refl (λ v. leading_fails value wanted none lines (n + 1) (λ values. next (v ∷ values)) (λ values number. by (v ∷ values) number) bytes m)
  where
    stop : FailsAt n (after_then wanted n (next [] (n + 1))) (line ∷ lines) m → value line ≡ None → FailsAt n (leading_then value wanted n next) (line ∷ lines) m
    stop fails ends = by_passed fails.passed fails.at fails.within fails.seen fails.before
      where
        by_passed : (k : ℕ) → m ≡ n + k → k ≤ length (line ∷ lines) → (k < length (line ∷ lines) → (more : List Bytes) (others : Bytes) → after_then wanted n (next [] (n + 1)) (take (suc k) (line ∷ lines) ++ more) others ≡ Err m)
            → Fills (λ more others. after_then wanted n (next [] (n + 1)) (take k (line ∷ lines) ++ more) others) → FailsAt n (leading_then value wanted n next) (line ∷ lines) m
        by_passed zero at within seen before =
            fails_first n m (leading_then value wanted n next) (line ∷ lines) (omega (arith, at))
            (λ some more others. leading_stops value wanted n next line ends more others
            ∙ seen (omega arith) more others)
            (leading_fills value wanted n next none (by [] (n + 1)).fills)
        by_passed (suc k) at within seen before = record {
          passed = suc k;
          at = at;
          within = within;
          seen = λ some more others. leading_stops value wanted n next line ends (take (suc k) lines ++ more) others ∙ seen some more others;
          before = (before.0, before.1, leading_stops value wanted n next line ends (take k lines ++ before.0) [] ∙ before.2);
        }

    by_value : (o : Option A) → value line ≡ o →
        ((v : A) → leading_then value wanted (n + 1) (λ values. next (v ∷ values)) lines bytes ≡ Err m →
        FailsAt (n + 1) (leading_then value wanted (n + 1) (λ values. next (v ∷ values))) lines m) →
        FailsAt n (leading_then value wanted n next) (line ∷ lines) m
    by_value None ends later =
        stop ((after_by_line wanted n (next [] (n + 1)) (by [] (n + 1))).fails (line ∷ lines) bytes m (sym (leading_stops value wanted n next line ends lines bytes) ∙ e)) ends
    by_value (Some v) some later =
        fails_next n m (leading_then value wanted n next) (leading_then value wanted (n + 1) (λ values. next (v ∷ values))) line lines (leading_goes value wanted n next line v some)
        (later v (sym (leading_goes value wanted n next line v some lines bytes) ∙ e))

pub leading_by_line :
    {A T : Type 0} (value : Bytes → Option A) (wanted : Bytes) (n : ℕ) (next : List A → ℕ → Reader T) →
    value wanted ≡ None → ((values : List A) (number : ℕ) → IsByLine number (next values number)) →
    IsByLine n (leading_then value wanted n next)
leading_by_line value wanted n next none by = record {
  fills = leading_fills value wanted n next none (by [] (n + 1)).fills;
  fails = λ lines bytes m e. leading_fails value wanted none lines n next by bytes m e;
}
