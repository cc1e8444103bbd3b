-- Five concatenated lists of values: reads and writes in each.
use Rattle.std.proofs.Common.{◌≡◌, ℕ, zero, suc, ◌+◌, ◌-◌, ◌<◌, List, [], ◌∷◌, ◌++◌, length, set, slice_get, refl, ◌∙◌, ap, arith}
use Rattle.std.proofs.lemmas.List.{set-append_left, set-append_right}

pub get-past : (xs ys : List ℕ) (n i : ℕ) → length xs ≡ n → slice_get (xs ++ ys) (n + i) ≡ slice_get ys i
get-past [] ys n i e = ap (slice_get ys) (omega arith)
get-past (x ∷ xs) ys n i e =
    let next : n + i ≡ suc (length xs + i) = omega arith in
    ap (slice_get (x ∷ xs ++ ys)) next ∙ get-past xs ys (length xs) i refl

pub get-front : (xs ys : List ℕ) (i : ℕ) → i < length xs → slice_get (xs ++ ys) i ≡ slice_get xs i
get-front [] ys i less = absurd (omega arith)
get-front (x ∷ xs) ys zero less = refl
get-front (x ∷ xs) ys (suc i) less = get-front xs ys i (omega arith)

pub set-past : (xs ys : List ℕ) (n i v : ℕ) → length xs ≡ n → set (xs ++ ys) (n + i) v ≡ xs ++ set ys i v
set-past xs ys n i v e =
    set-append_right xs ys n (n + i) v e (omega arith) ∙ (let k : n + i - n ≡ i = omega arith in rw k refl)

module _ (a b c d e : List ℕ) (na nb nc nd : ℕ) (la : length a ≡ na) (lb : length b ≡ nb) (lc : length c ≡ nc) (ld : length d ≡ nd) where
  abbrev pub laid : List ℕ
  laid = a ++ (b ++ (c ++ (d ++ e)))

  pub get-first : (i : ℕ) → i < na → slice_get laid i ≡ slice_get a i
  get-first i less = get-front a (b ++ (c ++ (d ++ e))) i (omega arith)

  pub get-second : (i : ℕ) → i < nb → slice_get laid (na + i) ≡ slice_get b i
  get-second i less = get-past a (b ++ (c ++ (d ++ e))) na i la ∙ get-front b (c ++ (d ++ e)) i (omega arith)

  pub get-third : (i : ℕ) → i < nc → slice_get laid (na + nb + i) ≡ slice_get c i
  get-third i less =
      let there : na + nb + i ≡ na + (nb + i) = omega arith in
      ap (slice_get laid) there ∙ get-past a (b ++ (c ++ (d ++ e))) na (nb + i) la ∙ get-past b (c ++ (d ++ e)) nb i lb ∙ get-front c (d ++ e) i (omega arith)

  pub get-fourth : (i : ℕ) → i < nd → slice_get laid (na + nb + nc + i) ≡ slice_get d i
  get-fourth i less =
      let there : na + nb + nc + i ≡ na + (nb + (nc + i)) = omega arith in
      ap (slice_get laid) there ∙ get-past a (b ++ (c ++ (d ++ e))) na (nb + (nc + i)) la ∙ get-past b (c ++ (d ++ e)) nb (nc + i) lb ∙ get-past c (d ++ e) nc i lc ∙ get-front d e i (omega arith)

  pub get-fifth : (i : ℕ) → slice_get laid (na + nb + nc + nd + i) ≡ slice_get e i
  get-fifth i =
      let there : na + nb + nc + nd + i ≡ na + (nb + (nc + (nd + i))) = omega arith in
      ap (slice_get laid) there ∙ get-past a (b ++ (c ++ (d ++ e))) na (nb + (nc + (nd + i))) la ∙ get-past b (c ++ (d ++ e)) nb (nc + (nd + i)) lb ∙ get-past c (d ++ e) nc (nd + i) lc ∙ get-past d e nd i ld

  pub set-first : (i v : ℕ) → i < na → set laid i v ≡ set a i v ++ (b ++ (c ++ (d ++ e)))
  set-first i v less = set-append_left a (b ++ (c ++ (d ++ e))) i v (omega arith)

  pub set-second : (i v : ℕ) → i < nb → set laid (na + i) v ≡ a ++ (set b i v ++ (c ++ (d ++ e)))
  set-second i v less = set-past a (b ++ (c ++ (d ++ e))) na i v la ∙ ap (λ u. a ++ u) (set-append_left b (c ++ (d ++ e)) i v (omega arith))

  pub set-third : (i v : ℕ) → i < nc → set laid (na + nb + i) v ≡ a ++ (b ++ (set c i v ++ (d ++ e)))
  set-third i v less =
      let there : na + nb + i ≡ na + (nb + i) = omega arith in
      ap (λ k. set laid k v) there ∙ set-past a (b ++ (c ++ (d ++ e))) na (nb + i) v la
      ∙ ap (λ u. a ++ u) (set-past b (c ++ (d ++ e)) nb i v lb ∙ ap (λ u. b ++ u) (set-append_left c (d ++ e) i v (omega arith)))

  pub set-fourth : (i v : ℕ) → i < nd → set laid (na + nb + nc + i) v ≡ a ++ (b ++ (c ++ (set d i v ++ e)))
  set-fourth i v less =
      let there : na + nb + nc + i ≡ na + (nb + (nc + i)) = omega arith in
      ap (λ k. set laid k v) there ∙ set-past a (b ++ (c ++ (d ++ e))) na (nb + (nc + i)) v la
      ∙ ap (λ u. a ++ u) (set-past b (c ++ (d ++ e)) nb (nc + i) v lb ∙ ap (λ u. b ++ u) (set-past c (d ++ e) nc i v lc ∙ ap (λ u. c ++ u) (set-append_left d e i v (omega arith))))

  pub set-fifth : (i v : ℕ) → set laid (na + nb + nc + nd + i) v ≡ a ++ (b ++ (c ++ (d ++ set e i v)))
  set-fifth i v =
      let there : na + nb + nc + nd + i ≡ na + (nb + (nc + (nd + i))) = omega arith in
      ap (λ k. set laid k v) there ∙ set-past a (b ++ (c ++ (d ++ e))) na (nb + (nc + (nd + i))) v la
      ∙ ap (λ u. a ++ u) (set-past b (c ++ (d ++ e)) nb (nc + (nd + i)) v lb ∙ ap (λ u. b ++ u) (set-past c (d ++ e) nc (nd + i) v lc ∙ ap (λ u. c ++ u) (set-past d e nd i v ld)))
