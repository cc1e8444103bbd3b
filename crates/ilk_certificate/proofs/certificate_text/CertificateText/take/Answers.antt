use Rattle.std.proofs.Common.{◌+◌, ◌++◌, drop, flat_map, take, ap, sym, arith, ◌∙◌, rules}
use Rattle.ilk_lines.specs.Lines.{Bytes}
use Rattle.ilk_lines.proofs.TakenPieces.{taken-bytes, taken-rest, token_taken}
use Rattle.ilk_certificate.specs.Writing.{untaken_bytes_of_part}
use Rattle.ilk_certificate.proofs.Parts.{part-first, part-past, part-set}
use Rattle.ilk_certificate.proofs.certificate_text.CertificateText.take.Goals as goal

pub returns-then-count-into-clause-bytes : goal.returns-then-count-into-clause-bytes
returns-then-count-into-clause-bytes c =
    let l = c.parts in
    let at = l.self-inside.at in
    let items = l.self-inside.parts.items in
    let p = c.index_mut-part.result.now in
    let first = part-first items at p (omega arith) c.index_mut-part.ensures.value in
    let now = c.take-count in
    let next = token_taken _ l.into now.new.into (untaken_bytes_of_part p) (untaken_bytes_of_part now.new.self)
    (flat_map untaken_bytes_of_part (drop (at + 1) items)) l.count now.result l.invariant.within (search rules)
    (l.invariant.whole ∙ ap (λ (t : Bytes). take l.count l.into ++ t) (sym first)) (search rules)
    now.ensures.bytes now.ensures.rest in
    taken-bytes _ _ _ _ next.1 next.0

pub returns-then-count-into-clause-rest : goal.returns-then-count-into-clause-rest
returns-then-count-into-clause-rest c =
    let l = c.parts in
    let at = l.self-inside.at in
    let items = l.self-inside.parts.items in
    let p = c.index_mut-part.result.now in
    let first = part-first items at p (omega arith) c.index_mut-part.ensures.value in
    let now = c.take-count in
    let next = token_taken _ l.into now.new.into (untaken_bytes_of_part p) (untaken_bytes_of_part now.new.self)
    (flat_map untaken_bytes_of_part (drop (at + 1) items)) l.count now.result l.invariant.within (search rules)
    (l.invariant.whole ∙ ap (λ (t : Bytes). take l.count l.into ++ t) (sym first)) (search rules)
    now.ensures.bytes now.ensures.rest in
    part-set items at now.new.self (omega arith) ∙ taken-rest _ _ _ _ next.1 next.0

pub parts-preserved : goal.parts-preserved
parts-preserved c =
    let l = c.parts in
    let at = l.self-inside.at in
    let items = l.self-inside.parts.items in
    let p = c.index_mut-part.result.now in
    let first = part-first items at p (omega arith) c.index_mut-part.ensures.value in
    let now = c.take-count in
    let next = token_taken _ l.into now.new.into (untaken_bytes_of_part p) (untaken_bytes_of_part now.new.self)
    (flat_map untaken_bytes_of_part (drop (at + 1) items)) l.count now.result l.invariant.within (search rules)
    (l.invariant.whole ∙ ap (λ (t : Bytes). take l.count l.into ++ t) (sym first)) (search rules)
    now.ensures.bytes now.ensures.rest in
    let none = next.2 (omega (arith, next.1, c.if-count-into.false)) in
    record {
      whole = next.0 ∙ sym (part-past _ items at now.new.self none);
      within = next.1;
      at = omega arith;
    }
