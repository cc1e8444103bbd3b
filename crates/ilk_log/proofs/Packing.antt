-- Packed bytes contain the numbers that were written.
use Rattle.std.proofs.Common.{◌≡◌, ◌<◌, ◌≤◌, ℕ, ◌+◌, ◌-◌, ◌*◌, ◌/◌, ◌%◌, ◌^◌, List, [], ◌∷◌, ◌++◌, map, take, drop, length, nat_lt, nat_le, Bool, true, false, refl, sym, ap, ◌∙◌, subst, append_assoc, arith}
use Rattle.std.specs.Prelude.{Some, slice_get}
use Rattle.std.proofs.Math.Seq.{take-append_seam}
use Rattle.std.proofs.lemmas.Bool.{and_parts, lt-ltb, le-ltb, ltb-true, leb-true}
use Rattle.std.proofs.lemmas.List.{append-nil, length-map, take_more, take_all}
use Rattle.std.proofs.lemmas.List.Prefix.{front_rest}
use Rattle.std.proofs.lemmas.Option.{slice_get_within, get_or_from_slice_get}
use Rattle.ilk_cnf.specs.Literal.{Literal}
use Rattle.ilk_cnf.specs.Formula.{is_clause_over, is_lit_over}
use Rattle.ilk_lines.specs.Lines.{Bytes}
use Rattle.ilk_log.specs.declared.step.Step.{Step}
use Rattle.ilk_log.specs.Packed.{DecodesToNumbersAndState, decoded_numbers, shift_in_seven_bits, add_zigzag_delta, code_from_lit, lit_from_code, step_from_numbers}

pub high-told : (bytes : Bytes) (ns : List ℕ) (last way bits : ℕ) → bits < 128 → DecodesToNumbersAndState bytes ns last way → DecodesToNumbersAndState (bytes ++ (128 + bits) ∷ []) ns last (shift_in_seven_bits way bits)
high-told bytes ns last way bits h t = record {
  told = λ rest. ap (decoded_numbers 0 0) (append_assoc bytes ((128 + bits) ∷ []) rest) ∙ t.told ((128 + bits) ∷ rest) ∙ ap (λ (xs : List ℕ). ns ++ xs) (step rest);
}
  where
    step : (rest : Bytes) → decoded_numbers last way ((128 + bits) ∷ rest) ≡ decoded_numbers last (shift_in_seven_bits way bits) rest
    step rest =
        let past : (128 + bits) - 128 ≡ bits = omega arith in
        rw (le-ltb (128 + bits) 128 (omega arith), past) refl

pub low-told : (bytes : Bytes) (ns : List ℕ) (last way bits : ℕ) → bits < 128 → DecodesToNumbersAndState bytes ns last way → DecodesToNumbersAndState (bytes ++ bits ∷ []) (ns ++ add_zigzag_delta last (shift_in_seven_bits way bits) ∷ [])
    (add_zigzag_delta last (shift_in_seven_bits way bits)) 0
low-told bytes ns last way bits h t = record {
  told = λ rest. ap (decoded_numbers 0 0) (append_assoc bytes (bits ∷ []) rest) ∙ t.told (bits ∷ rest)
      ∙ ap (λ (xs : List ℕ). ns ++ xs) (step rest)
      ∙ sym
      (append_assoc ns (add_zigzag_delta last (shift_in_seven_bits way bits) ∷ [])
      (decoded_numbers (add_zigzag_delta last (shift_in_seven_bits way bits)) 0 rest));
}
  where
    step : (rest : Bytes) → decoded_numbers last way (bits ∷ rest) ≡ add_zigzag_delta last (shift_in_seven_bits way bits) ∷ decoded_numbers (add_zigzag_delta last (shift_in_seven_bits way bits)) 0 rest
    step rest = rw (lt-ltb bits 128 h) refl

whole-way : (way : ℕ) → way < 2 ^ 64 → shift_in_seven_bits (way / 128) (way % 128) ≡ way
whole-way way h = omega (arith, h)

pub high_told : (bytes : Bytes) (ns : List ℕ) (last way : ℕ) → way < 2 ^ 64 → DecodesToNumbersAndState bytes ns last (way / 128) → DecodesToNumbersAndState (bytes ++ (128 + way % 128) ∷ []) ns last way
high_told bytes ns last way h t =
    let low : way % 128 < 128 = omega arith in
    subst (λ (w : ℕ). DecodesToNumbersAndState (bytes ++ (128 + way % 128) ∷ []) ns last w) (whole-way way h) (high-told bytes ns last (way / 128) (way % 128) low t)

pub number_told : (bytes : Bytes) (ns : List ℕ) (last way number : ℕ) → way < 2 ^ 64 → add_zigzag_delta last way ≡ number → DecodesToNumbersAndState bytes ns last (way / 128) → DecodesToNumbersAndState (bytes ++ way % 128 ∷ []) (ns ++
    number ∷ []) number 0
number_told bytes ns last way number h m t =
    let low : way % 128 < 128 = omega arith in
    let w : add_zigzag_delta last (shift_in_seven_bits (way / 128) (way % 128)) ≡ number = ap (add_zigzag_delta last) (whole-way way h) ∙ m in
    subst (λ (n : ℕ). DecodesToNumbersAndState (bytes ++ way % 128 ∷ []) (ns ++ n ∷ []) n 0) w (low-told bytes ns last (way / 128) (way % 128) low t)

more : (xs : List ℕ) (i x : ℕ) → slice_get xs i ≡ Some x → take (i + 1) xs ≡ take i xs ++ x ∷ []
more xs i x at = take_more xs i 0 (slice_get_within xs i x at) ∙ ap (λ (y : ℕ). take i xs ++ y ∷ []) (get_or_from_slice_get xs i x 0 at)

pub hint-told : (bytes : Bytes) (ns hints : List ℕ) (i number : ℕ) → slice_get hints i ≡ Some number → DecodesToNumbersAndState bytes ((ns ++ take i hints) ++ number ∷ []) number 0 → DecodesToNumbersAndState bytes (ns ++ take (i + 1) hints) number 0
hint-told bytes ns hints i number at t =
    subst (λ (xs : List ℕ). DecodesToNumbersAndState bytes xs number 0) (append_assoc ns (take i hints) (number ∷ []) ∙ ap (λ (xs : List ℕ). ns ++ xs) (sym (more hints i number at))) t

pub all-told : (bytes : Bytes) (ns : List ℕ) (last : ℕ) → DecodesToNumbersAndState bytes ns last 0 → decoded_numbers 0 0 bytes ≡ ns
all-told bytes ns last t = ap (decoded_numbers 0 0) (sym (append-nil bytes)) ∙ t.told [] ∙ append-nil ns

pub hints-told : (bytes : Bytes) (ns hints : List ℕ) (i last : ℕ) → length hints ≤ i → DecodesToNumbersAndState bytes (ns ++ take i hints) last 0 → decoded_numbers 0 0 bytes ≡ ns ++ hints
hints-told bytes ns hints i last h t = all-told bytes (ns ++ take i hints) last t ∙ ap (λ (xs : List ℕ). ns ++ xs) (take_all i hints h)

literal-back : (l : Literal) → is_lit_over (2 ^ 62) l ≡ true → lit_from_code (code_from_lit l) ≡ l
literal-back l h = (let p = and_parts (nat_lt 0 l.var) (nat_le l.var (2 ^ 62)) h in go l.var l.positive (ltb-true 0 l.var p.0) (leb-true l.var (2 ^ 62) p.1))
  where
    go : (v : ℕ) (b : Bool) → 0 < v → v ≤ 2 ^ 62 → lit_from_code (code_from_lit (record { var = v; positive = b })) ≡ record { var = v; positive = b }
    go v true p q =
        let n : (2 * (v - 1) + 1) / 2 % 2 ^ 62 + 1 ≡ v = omega (arith, p, q) in
        let s : (2 * (v - 1) + 1) % 2 ≡ 1 = omega (arith, p, q) in
        rw (n, s) refl
    go v false p q =
        let n : (2 * (v - 1) + 0) / 2 % 2 ^ 62 + 1 ≡ v = omega (arith, p, q) in
        let s : (2 * (v - 1) + 0) % 2 ≡ 0 = omega (arith, p, q) in
        rw (n, s) refl

literals-back : (ls : List Literal) → is_clause_over (2 ^ 62) ls ≡ true → map lit_from_code (map code_from_lit ls) ≡ ls
literals-back [] h = refl
literals-back (l ∷ ls) h =
    let p = and_parts (is_lit_over (2 ^ 62) l) (is_clause_over (2 ^ 62) ls) h in
    ap (λ (m : Literal). m ∷ map lit_from_code (map code_from_lit ls)) (literal-back l p.0) ∙ ap (λ (ms : List Literal). l ∷ ms) (literals-back ls p.1)

pub step_back : (s : Step) → is_clause_over (2 ^ 62) s.clause ≡ true → step_from_numbers (length s.clause) (map code_from_lit s.clause ++ s.hints) ≡ s
step_back s h =
    let ns : List ℕ = map code_from_lit s.clause in
    let front : take (length ns) (ns ++ s.hints) ≡ ns = take-append_seam ns s.hints in
    let rest : drop (length ns) (ns ++ s.hints) ≡ s.hints = front_rest (ns ++ s.hints) ns s.hints refl in
    ap (λ (k : ℕ). step_from_numbers k (ns ++ s.hints)) (sym (length-map s.clause code_from_lit))
    ∙ ap (λ (xs : List ℕ). told (map lit_from_code xs) (drop (length ns) (ns ++ s.hints))) front
    ∙ ap (told (map lit_from_code ns)) rest
    ∙ ap (λ (ls : List Literal). told ls s.hints) (literals-back s.clause h)
  where
    told : List Literal → List ℕ → Step
    told ls hs = record { clause = ls; hints = hs }

pub packed-back : (s : Step) (bytes : Bytes) (count : ℕ) → is_clause_over (2 ^ 62) s.clause ≡ true → count ≡ length s.clause → decoded_numbers 0 0 bytes ≡ map code_from_lit s.clause ++ s.hints
    → step_from_numbers count (decoded_numbers 0 0 bytes) ≡ s
packed-back s bytes count h n told = ap (λ (k : ℕ). step_from_numbers k (decoded_numbers 0 0 bytes)) n ∙ ap (step_from_numbers (length s.clause)) told ∙ step_back s h
