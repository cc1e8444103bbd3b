-- The rest of a text that consists of parts.
use Rattle.std.proofs.Common.{◌≡◌, ℕ, ◌+◌, ◌<◌, List, [], ◌∷◌, ◌++◌, length, drop, set, flat_map, sym, ap, ◌∙◌, arith, get_or}
use Rattle.std.proofs.lemmas.List.{drop-set, drop-set-lt, drop_more}
use Rattle.ilk_lines.specs.Lines.{Bytes}
use Rattle.ilk_certificate.specs.declared.part.Part.{Part}
use Rattle.ilk_certificate.specs.Writing.{untaken_bytes_of_part}

pub part-first : (parts : List Part) (at : ℕ) (p : Part) → at < length parts → p ≡ get_or parts at p → untaken_bytes_of_part p ++ flat_map untaken_bytes_of_part (drop (at + 1) parts) ≡ flat_map untaken_bytes_of_part (drop at parts)
part-first parts at p within is = sym (ap (flat_map untaken_bytes_of_part) (drop_more parts at p within ∙ ap (λ (q : Part). q ∷ drop (at + 1) parts) (sym is)))

pub part-set : (parts : List Part) (at : ℕ) (p : Part) → at < length parts → flat_map untaken_bytes_of_part (drop at (set parts at p)) ≡ untaken_bytes_of_part p ++ flat_map untaken_bytes_of_part (drop (at + 1) parts)
part-set parts at p within = ap (flat_map untaken_bytes_of_part) (drop-set parts at p within)

pub part-past : (start : Bytes) (parts : List Part) (at : ℕ) (p : Part) → untaken_bytes_of_part p ≡ [] → start ++ flat_map untaken_bytes_of_part (drop (at + 1) (set parts at p)) ≡ start ++ (untaken_bytes_of_part p ++
    flat_map untaken_bytes_of_part (drop (at + 1) parts))
part-past start parts at p none =
    ap (λ (ps : List Part). start ++ flat_map untaken_bytes_of_part ps) (drop-set-lt (at + 1) parts at p (omega arith))
    ∙ ap (λ (t : Bytes). start ++ (t ++ flat_map untaken_bytes_of_part (drop (at + 1) parts))) (sym none)
