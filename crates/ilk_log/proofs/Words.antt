-- The words of a line state a step exactly if they are that step's words.
use Rattle.std.proofs.Common.{◌≡◌, ℕ, ◌-◌, ◌^◌, ◌<◌, ◌≤◌, inl, inr, Bool, true, false, ◌&&◌, ◌==◌, List, [], ◌∷◌, ◌++◌, map, refl, sym, ap, ◌∙◌, subst, arith, Option, Some, None, lit<}
use Rattle.std.specs.Prelude.{Result, Ok, Err, IfOk, codes, bytes_eq, nat_lt, All, ◌↔◌, option_map, nat_le}
use Rattle.std.specs.Fmt.{decimal}
use Rattle.std.specs.List.{list_all, list_any}
use Rattle.std.proofs.lemmas.Bool.{and_parts, and_from, cases_Bool, or_parts, ltb-true, lt-ltb, leb-true, le-leb, eqb-true}
use Rattle.ilk_base.proofs.Options.{mapped-Some, bind_some}
use Rattle.std.proofs.lemmas.Slice.Eq.{bytes_eq-Decides}
use Rattle.std.proofs.lemmas.List.Elements.{All-nil, All-cons, All-append}
use Rattle.std.proofs.lemmas.Option.{cond_some, some_pair_parts, same_Some}
use Rattle.ilk_base.specs.Option.{◌>>=◌, then_some}
use Rattle.ilk_cnf.specs.Literal.{Literal}
use Rattle.ilk_cnf.specs.Formula.{is_lit_over, is_clause_over}
use Rattle.ilk_lines.specs.Lines.{Bytes}
use Rattle.ilk_lines.specs.Words.{words_of}
use Rattle.ilk_lines.specs.Written.{join_words_with_spaces, LacksByte}
use Rattle.ilk_lines.specs.Decimal.{decimal_up_to}
use Rattle.ilk_lines.proofs.Decimals.{decimal-written, decimal_back, decimal_lacks}
use Rattle.ilk_lines.proofs.Cuts.{parts_follow}
use Rattle.ilk_lines.proofs.LineWords.{line-words, words_back}
use Rattle.ilk_log.specs.declared.step.Step.{Step}
use Rattle.ilk_log.specs.StepText.{lit_word, step_words, step_text, has_writable_numbers}
use Rattle.ilk_log.specs.StepReading.{lits_from_words, has_no_words, hints_from_words, step_from_words}
use Rattle.ilk_log.specs.StepWords.{positive_decimal_up_to, lit_from_word}

count-written : (limit n : ℕ) (word : Bytes) → limit < 2 ^ 64 → positive_decimal_up_to limit word ≡ Some n → (word ≡ decimal n) × (0 < n) × (n ≤ limit)
count-written limit n word small e =
    let b = bind_some (decimal_up_to limit word) (λ (m : ℕ). then_some (nat_lt 0 m) m) n e in
    let c = cond_some (nat_lt 0 b.0) b.0 n b.2 in
    let r = decimal-written limit word b.0 small b.1 in
    let p : 0 < b.0 = ltb-true 0 b.0 c.0 in
    (r.0 ∙ ap decimal c.1, omega (arith, c.1, p), omega (arith, c.1, r.1))

count-back : (limit n : ℕ) → limit < 2 ^ 64 → 0 < n → n ≤ limit → positive_decimal_up_to limit (decimal n) ≡ Some n
count-back limit n small p h =
    let d = decimal_back limit n small h in
    let q : nat_lt 0 n ≡ true = lt-ltb 0 n p in
    ap (λ (o : Option ℕ). o >>= (λ (m : ℕ). then_some (nat_lt 0 m) m)) d ∙ ap (λ (b : Bool). then_some b n) q

word-is : (word wanted : Bytes) → bytes_eq word wanted ≡ true → word ≡ wanted
word-is word wanted h = (bytes_eq-Decides word wanted).0 h

zero-word : (word : Bytes) → bytes_eq word (codes "0") ≡ true → word ≡ codes "0"
zero-word word h = word-is word (codes "0") h

lit-plain : (word : Bytes) → LacksByte 45 word → lit_from_word word ≡ option_map (λ (v : ℕ). let r : Literal = record { var = v; positive = true } in r) (positive_decimal_up_to (2 ^ 62) word)
lit-plain [] h = refl
lit-plain (b ∷ word) h = (let p = or_parts (b == 45) (list_any (λ x. x == 45) word) h in rw p.0 refl)

within-numbers : (v : ℕ) (b : Bool) → 0 < v → v ≤ 2 ^ 62 → is_lit_over (2 ^ 62) (record { var = v; positive = b }) ≡ true
within-numbers v b p h = and_from (nat_lt 0 v) (nat_le v (2 ^ 62)) (lt-ltb 0 v p) (le-leb v (2 ^ 62) h)

signed : (b : Bool) (word : Bytes) (l : Literal) →
    option_map (λ (v : ℕ). let r : Literal = record { var = v; positive = b } in r) (positive_decimal_up_to (2 ^ 62) word)
    ≡ Some l →
    (n : ℕ) × (word ≡ decimal n) × (is_lit_over (2 ^ 62) l ≡ true) × (l ≡ record { var = n; positive = b })
signed b word l h =
    let f : ℕ → Literal = λ v. record { var = v; positive = b } in
    let m = mapped-Some f (positive_decimal_up_to (2 ^ 62) word) l h in
    let c = count-written (2 ^ 62) m.0 word (lit< tt) m.1 in
    let L : Literal → Type 0 = λ x. is_lit_over (2 ^ 62) x ≡ true in
    (m.0, c.0, subst L m.2 (within-numbers m.0 b c.1 c.2), sym m.2)

lit-written : (word : Bytes) (l : Literal) → lit_from_word word ≡ Some l → (word ≡ lit_word l) × (is_lit_over (2 ^ 62) l ≡ true)
lit-written [] l h = absurd (cc)
lit-written (b ∷ word) l h =
    elim (cases_Bool (b == 45)) [
      | inl e ↦ (let s = signed false word l (rw e at h) in
          (ap (λ (x : ℕ). x ∷ word) (eqb-true b 45 e) ∙ ap (λ (w : Bytes). 45 ∷ w) s.1 ∙ ap lit_word (sym s.3), s.2))
      | inr e ↦ (let s = signed true (b ∷ word) l (rw e at h) in (s.1 ∙ ap lit_word (sym s.3), s.2))
    ]

lit-back : (l : Literal) → is_lit_over (2 ^ 62) l ≡ true → lit_from_word (lit_word l) ≡ Some l
lit-back l h = (let p = and_parts (nat_lt 0 l.var) (nat_le l.var (2 ^ 62)) h in go l.var l.positive (ltb-true 0 l.var p.0) (leb-true l.var (2 ^ 62) p.1))
  where
    go : (v : ℕ) (b : Bool) → 0 < v → v ≤ 2 ^ 62 → lit_from_word (lit_word (record { var = v; positive = b })) ≡ Some (record { var = v; positive = b })
    go v true p h = lit-plain (decimal v) (decimal_lacks 45 v refl (omega arith)) ∙ ap (option_map (λ (x : ℕ). let r : Literal = record { var = x; positive = true } in r)) (count-back (2 ^ 62) v (lit< tt) p h)
    go v false p h = ap (option_map (λ (x : ℕ). let r : Literal = record { var = x; positive = false } in r)) (count-back (2 ^ 62) v (lit< tt) p h)

not-zero : (word : Bytes) (l : Literal) → lit_from_word word ≡ Some l → bytes_eq word (codes "0") ≡ false
not-zero word l h = elim (cases_Bool (bytes_eq word (codes "0"))) [
  | inl e ↦ absurd (let n : None ≡ Some l = sym (ap lit_from_word (zero-word word e)) ∙ h in cc)
  | inr e ↦ e
]

count-not-zero : (word : Bytes) (n : ℕ) → positive_decimal_up_to (2 ^ 64 - 1) word ≡ Some n → bytes_eq word (codes "0") ≡ false
count-not-zero word n h = elim (cases_Bool (bytes_eq word (codes "0"))) [
  | inl e ↦ absurd (let m : None ≡ Some n = sym (ap (positive_decimal_up_to (2 ^ 64 - 1)) (zero-word word e)) ∙ h in cc)
  | inr e ↦ e
]

lits-written : (words : List Bytes) (ls : List Literal) (rest : List Bytes) → lits_from_words words ≡ Some (ls, rest) → (words ≡ map lit_word ls ++ (codes "0" ∷ rest)) × (is_clause_over (2 ^ 62) ls ≡ true)
lits-written [] ls rest h = absurd (cc)
lits-written (word ∷ words) ls rest h =
    elim (cases_Bool (bytes_eq word (codes "0"))) [
      | inl e ↦ (let q = some_pair_parts [] ls words rest (rw e at h) in
          let P : List Literal → Type 0 = λ xs. (word ∷ words ≡ map lit_word xs ++ (codes "0" ∷ rest)) × (is_clause_over (2 ^ 62) xs ≡ true) in
          subst P q.0 (ap (λ (w : Bytes). w ∷ words) (zero-word word e) ∙ ap (λ (ws : List Bytes). codes "0" ∷ ws) q.1, refl))
      | inr e ↦ (let b = bind_some (lit_from_word word) (λ (l : Literal). lits_from_words words >>= (λ (r : List Literal × List Bytes). Some (l ∷ r.0, r.1))) (ls, rest) (rw e at h) in
          let d = bind_some (lits_from_words words) (λ (r : List Literal × List Bytes). Some (b.0 ∷ r.0, r.1)) (ls, rest) b.2 in
          let q = some_pair_parts (b.0 ∷ d.0.0) ls d.0.1 rest d.2 in
          let w = lit-written word b.0 b.1 in
          let i = lits-written words d.0.0 d.0.1 d.1 in
          let P : List Literal → Type 0 = λ xs. (word ∷ words ≡ map lit_word xs ++ (codes "0" ∷ rest)) × (is_clause_over (2 ^ 62) xs ≡ true) in
          subst P q.0 (
            ap (λ (x : Bytes). x ∷ words) w.0 ∙ ap (λ (ws : List Bytes). lit_word b.0 ∷ ws) (i.0 ∙ ap (λ (ws : List Bytes). map lit_word d.0.0 ++ (codes "0" ∷ ws)) q.1),
            and_from (is_lit_over (2 ^ 62) b.0) (is_clause_over (2 ^ 62) d.0.0)
                w.1 i.1,
          ))
    ]

lits-back : (ls : List Literal) (rest : List Bytes) → is_clause_over (2 ^ 62) ls ≡ true → lits_from_words (map lit_word ls ++ (codes "0" ∷ rest)) ≡ Some (ls, rest)
lits-back [] rest h = refl
lits-back (l ∷ ls) rest h =
    let p = and_parts (is_lit_over (2 ^ 62) l) (is_clause_over (2 ^ 62) ls) h in
    let b = lit-back l p.0 in
    rw (not-zero (lit_word l) l b, b, lits-back ls rest p.1) refl

hints-written : (words : List Bytes) (hs : List ℕ) → hints_from_words words ≡ Some hs → (words ≡ map decimal hs ++ codes "0" ∷ []) × (list_all (λ h. nat_lt 0 h && nat_lt h (2 ^ 64)) hs ≡ true)
hints-written [] hs h = absurd (cc)
hints-written (word ∷ words) hs h =
    elim (cases_Bool (bytes_eq word (codes "0"))) [
      | inl e ↦ (let q = cond_some (has_no_words words) [] hs (rw e at h) in
          let P : List ℕ → Type 0 = λ xs. (word ∷ words ≡ map decimal xs ++ codes "0" ∷ []) × (list_all (λ h. nat_lt 0 h && nat_lt h (2 ^ 64)) xs ≡ true) in
          subst P q.1 (ap (λ (w : Bytes). w ∷ words) (zero-word word e) ∙ ap (λ (ws : List Bytes). codes "0" ∷ ws) (none words q.0), refl))
      | inr e ↦ (let b = bind_some (positive_decimal_up_to (2 ^ 64 - 1) word) (λ (n : ℕ). hints_from_words words >>= (λ (r : List ℕ). Some (n ∷ r))) hs (rw e at h) in
          let d = bind_some (hints_from_words words) (λ (r : List ℕ). Some (b.0 ∷ r)) hs b.2 in
          let q : b.0 ∷ d.0 ≡ hs = same_Some (b.0 ∷ d.0) hs d.2 in
          let w = count-written (2 ^ 64 - 1) b.0 word (lit< tt) b.1 in
          let i = hints-written words d.0 d.1 in
          let P : List ℕ → Type 0 = λ xs. (word ∷ words ≡ map decimal xs ++ codes "0" ∷ []) × (list_all (λ h. nat_lt 0 h && nat_lt h (2 ^ 64)) xs ≡ true) in
          let fits : (nat_lt 0 b.0 && nat_lt b.0 (2 ^ 64)) ≡ true = and_from (nat_lt 0 b.0) (nat_lt b.0 (2 ^ 64)) (lt-ltb 0 b.0 w.1) (lt-ltb b.0 (2 ^ 64) (omega (arith, w.2))) in
          subst P q (ap (λ (x : Bytes). x ∷ words) w.0 ∙ ap (λ (ws : List Bytes). decimal b.0 ∷ ws) i.0, and_from (nat_lt 0 b.0 && nat_lt b.0 (2 ^ 64)) (list_all (λ h. nat_lt 0 h && nat_lt h (2 ^ 64)) d.0) fits i.1))
    ]
  where
    none : (ws : List Bytes) → has_no_words ws ≡ true → ws ≡ []
    none [] h = refl
    none (w ∷ ws) h = absurd (cc)

hints-back : (hs : List ℕ) → list_all (λ h. nat_lt 0 h && nat_lt h (2 ^ 64)) hs ≡ true → hints_from_words (map decimal hs ++ codes "0" ∷ []) ≡ Some hs
hints-back [] h = refl
hints-back (n ∷ hs) h =
    let p = and_parts (nat_lt 0 n && nat_lt n (2 ^ 64)) _ h in
    let q = and_parts (nat_lt 0 n) (nat_lt n (2 ^ 64)) p.0 in
    let high : n < 2 ^ 64 = ltb-true n (2 ^ 64) q.1 in
    let b = count-back (2 ^ 64 - 1) n (lit< tt) (ltb-true 0 n q.0) (omega arith) in
    rw (count-not-zero (decimal n) n b, b, hints-back hs p.1) refl

step-written : (words : List Bytes) (s : Step) → step_from_words words ≡ Some s → (words ≡ step_words s) × (has_writable_numbers s ≡ true)
step-written [] s h = absurd (cc)
step-written (word ∷ words) s h =
    elim (cases_Bool (bytes_eq word (codes "step"))) [
      | inl e ↦ (let b = bind_some (lits_from_words words) (λ (r : List Literal × List Bytes). hints_from_words r.1 >>= (λ (hs : List ℕ). let t : Step = record { clause = r.0; hints = hs } in Some t)) s (rw e at h) in
          let d = bind_some (hints_from_words b.0.1) (λ (hs : List ℕ). let t : Step = record { clause = b.0.0; hints = hs } in Some t) s b.2 in
          let l = lits-written words b.0.0 b.0.1 b.1 in
          let i = hints-written b.0.1 d.0 d.1 in
          let t : Step = record { clause = b.0.0; hints = d.0 } in
          let q : t ≡ s = same_Some t s d.2 in
          let P : Step → Type 0 = λ x. (word ∷ words ≡ step_words x) × (has_writable_numbers x ≡ true) in
          subst P q (
            ap (λ (w : Bytes). w ∷ words) (word-is word (codes "step") e)
                ∙ ap (λ (ws : List Bytes). codes "step" ∷ ws)
                (l.0 ∙ ap (λ (ws : List Bytes). map lit_word b.0.0 ++ (codes "0" ∷ ws)) i.0),
            and_from (is_clause_over (2 ^ 62) b.0.0) _ l.1 i.1,
          ))
      | inr e ↦ absurd (let n : None ≡ Some s = rw e at h in cc)
    ]

step-back : (s : Step) → has_writable_numbers s ≡ true → step_from_words (step_words s) ≡ Some s
step-back s h =
    let p = and_parts (is_clause_over (2 ^ 62) s.clause) _ h in
    rw (lits-back s.clause (map decimal s.hints ++ codes "0" ∷ []) p.0, hints-back s.hints p.1) refl

lacks-all : (s : Step) → has_writable_numbers s ≡ true → All (LacksByte 32) (step_words s)
lacks-all s h =
    let p = and_parts (is_clause_over (2 ^ 62) s.clause) _ h in
    let zero : All (LacksByte 32) (map decimal s.hints ++ codes "0" ∷ []) = All-append (LacksByte 32) (map decimal s.hints) (codes "0" ∷ []) (numbers s.hints p.1) (All-cons (LacksByte 32) (codes "0") [] refl (All-nil (LacksByte 32))) in
    All-cons (LacksByte 32) (codes "step") _ refl (All-append (LacksByte 32) (map lit_word s.clause) (codes "0" ∷ (map decimal s.hints ++ codes "0" ∷ [])) (lits s.clause p.0) (All-cons (LacksByte 32) (codes "0") _ refl zero))
  where
    lit-lacks : (v : ℕ) (b : Bool) → v ≤ 2 ^ 62 → LacksByte 32 (lit_word (record { var = v; positive = b }))
    lit-lacks v true h = decimal_lacks 32 v refl (omega arith)
    lit-lacks v false h = decimal_lacks 32 v refl (omega arith)

    lits : (ls : List Literal) → is_clause_over (2 ^ 62) ls ≡ true → All (LacksByte 32) (map lit_word ls)
    lits [] h = All-nil (LacksByte 32)
    lits (l ∷ ls) h =
        let p = and_parts (is_lit_over (2 ^ 62) l) (is_clause_over (2 ^ 62) ls) h in
        let q = and_parts (nat_lt 0 l.var) (nat_le l.var (2 ^ 62)) p.0 in
        All-cons (LacksByte 32) (lit_word l) (map lit_word ls) (lit-lacks l.var l.positive (leb-true l.var (2 ^ 62) q.1)) (lits ls p.1)

    numbers : (hs : List ℕ) → list_all (λ h. nat_lt 0 h && nat_lt h (2 ^ 64)) hs ≡ true → All (LacksByte 32) (map decimal hs)
    numbers [] h = All-nil (LacksByte 32)
    numbers (n ∷ hs) h =
        let p = and_parts (nat_lt 0 n && nat_lt n (2 ^ 64)) _ h in
        let q = and_parts (nat_lt 0 n) (nat_lt n (2 ^ 64)) p.0 in
        All-cons (LacksByte 32) (decimal n) (map decimal hs) (decimal_lacks 32 n refl (ltb-true n (2 ^ 64) q.1)) (numbers hs p.1)

pub step_exactly : (line : Bytes) (s : Step) → (step_from_words (words_of line) ≡ Some s) ↔ ((line ≡ step_text s) × (has_writable_numbers s ≡ true))
step_exactly line s = (
  λ e. (let w = step-written (words_of line) s e in (line-words line ∙ ap join_words_with_spaces w.0, w.1)),
  λ is. (ap (λ (t : Bytes). step_from_words (words_of t)) is.0 ∙ ap step_from_words (words_back (step_words s) (omega arith) (lacks-all s is.1)) ∙ step-back s is.1),
)

abbrev pub with_lits : List Literal → Option (List Literal × List Bytes) → Option (List Literal × List Bytes)
with_lits front o = option_map (λ r. (front ++ r.0, r.1)) o

pub record AtLits (whole : List Bytes) (taken : List Literal) (left : List Bytes) : Type 0 where
  pub is : lits_from_words whole ≡ with_lits taken (lits_from_words left)

pub record AtHints (whole : List Bytes) (taken : List ℕ) (left : List Bytes) : Type 0 where
  pub is : hints_from_words whole ≡ option_map (λ r. taken ++ r) (hints_from_words left)

pub hints_more : (whole left : List Bytes) (taken : List ℕ) (word rest : Bytes) → AtHints whole taken left → left ≡ word ∷ words_of rest → bytes_eq word (codes "0") ≡ true → hints_from_words whole ≡ None
hints_more whole left taken word rest a e h =
    let p = parts_follow 32 rest in
    a.is ∙ ap (λ (ws : List Bytes). option_map (λ (r : List ℕ). taken ++ r) (hints_from_words ws)) (e ∙ ap (λ (ws : List Bytes). word ∷ ws) p.2) ∙ rw h refl

read_back : (told : Option Step) (line : Bytes) → told ≡ step_from_words (words_of line) → (s : Step) → (told ≡ Some s) ↔ ((line ≡ step_text s) × (has_writable_numbers s ≡ true))
read_back told line e s = (let x = step_exactly line s in ((λ h. x.0 (sym e ∙ h)), (λ is. e ∙ x.1 is)))

pub told-exactly : {E : Type 0} (r : Result Bool E) (t : Step) (line : Bytes) → IfOk r (λ b. then_some b t ≡ step_from_words (words_of line)) →
    IfOk r (λ b. (s : Step) → (then_some b t ≡ Some s) ↔ ((line ≡ step_text s) × (has_writable_numbers s ≡ true)))
told-exactly (Err e) t line h = tt
told-exactly (Ok b) t line h = λ s. read_back (then_some b t) line h s

pub copied-exactly : {E : Type 0} (r : Result (Option Step) E) (o : Option Step) (line : Bytes) → IfOk r (λ told. told ≡ o) →
    ((s : Step) → (o ≡ Some s) ↔ ((line ≡ step_text s) × (has_writable_numbers s ≡ true))) → IfOk r (λ told. (s : Step) → (told ≡ Some s) ↔ ((line ≡ step_text s) × (has_writable_numbers s ≡ true)))
copied-exactly (Err e) o line h exactly = tt
copied-exactly (Ok told) o line h exactly = λ s. ((λ e. (exactly s).0 (sym h ∙ e)), (λ is. h ∙ (exactly s).1 is))
