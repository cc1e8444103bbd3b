-- A line of a word and a number.
use Rattle.std.proofs.Common.{◌≡◌, ℕ, ◌-◌, ◌<◌, ◌≤◌, ◌^◌, sym, ap, ◌∙◌, arith, Option, Some, None}
use Rattle.std.specs.Prelude.{IfNone, IfSome}
use Rattle.std.specs.Fmt.{decimal}
use Rattle.std.proofs.lemmas.Option.{same_Some}
use Rattle.ilk_lines.specs.Decimal.{decimal_up_to}
use Rattle.ilk_lines.specs.Lines.{Bytes}
use Rattle.ilk_lines.specs.Words.{strip_word_and_space}
use Rattle.ilk_lines.specs.Written.{join_word_and_rest}
use Rattle.ilk_lines.proofs.Decimals.{decimal_back, decimal-written}
use Rattle.ilk_lines.proofs.LineWords.{strip_word_and_space-joins, word_back}

pub no-word : (word line rest : Bytes) → strip_word_and_space word line ≡ None → ¬ (line ≡ join_word_and_rest word rest)
no-word word line rest none e = (let some : None ≡ Some rest = sym none ∙ ap (strip_word_and_space word) e ∙ word_back word rest in cc)

pub rest-is : (word line rest more : Bytes) → strip_word_and_space word line ≡ Some rest → line ≡ join_word_and_rest word more → rest ≡ more
rest-is word line rest more some e = same_Some rest more (sym some ∙ ap (strip_word_and_space word) e ∙ word_back word more)

pub numbered-line : (word line rest : Bytes) (limit n : ℕ) → limit < 2 ^ 64 → strip_word_and_space word line ≡ Some rest → decimal_up_to limit rest ≡ Some n → (line ≡ join_word_and_rest word (decimal n)) × (n ≤ limit)
numbered-line word line rest limit n small some e =
    let d = decimal-written limit rest n small e in
    (strip_word_and_space-joins word line rest some ∙ ap (join_word_and_rest word) d.0, d.1)

pub numbered-back : (word line rest : Bytes) (limit n : ℕ) → limit < 2 ^ 64 → n ≤ limit → strip_word_and_space word line ≡ Some rest → line ≡ join_word_and_rest word (decimal n) → decimal_up_to limit rest ≡ Some n
numbered-back word line rest limit n small le some e = ap (decimal_up_to limit) (rest-is word line rest (decimal n) some e) ∙ decimal_back limit n small le

pub told-some : (word line rest : Bytes) (limit : ℕ) (o : Option ℕ) → limit < 2 ^ 64 → Some rest ≡ strip_word_and_space word line → o ≡ decimal_up_to limit rest → IfSome o (λ n. (line ≡ join_word_and_rest word (decimal n)) × (n ≤ limit))
told-some word line rest limit None small some e = tt
told-some word line rest limit (Some n) small some e = numbered-line word line rest limit n small (sym some) (sym e)

pub told-none : (word line rest : Bytes) (limit : ℕ) (o : Option ℕ) → limit < 2 ^ 64 → Some rest ≡ strip_word_and_space word line → o ≡ decimal_up_to limit rest → IfNone o ((n : ℕ) → n ≤ limit → ¬ (line ≡ join_word_and_rest word (decimal n)))
told-none word line rest limit None small some e = λ n le is. (let z : None ≡ Some n = e ∙ numbered-back word line rest limit n small le (sym some) is in cc)
told-none word line rest limit (Some n) small some e = tt

pub same-number : (word line : Bytes) (m n : ℕ) → m < 2 ^ 64 → n < 2 ^ 64 → line ≡ join_word_and_rest word (decimal m) → line ≡ join_word_and_rest word (decimal n) → m ≡ n
same-number word line m n hm hn a b =
    let d : decimal m ≡ decimal n = rest-is word line (decimal m) (decimal n) (ap (strip_word_and_space word) a ∙ word_back word (decimal m)) b in
    same_Some m n (sym (decimal_back (2 ^ 64 - 1) m (omega arith) (omega (arith, hm))) ∙ ap (decimal_up_to (2 ^ 64 - 1)) d ∙ decimal_back (2 ^ 64 - 1) n (omega arith) (omega (arith, hn)))
