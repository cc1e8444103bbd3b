use Rattle.std.proofs.Common.{rules, ◌++◌, take, ap, ◌∙◌}
use Rattle.ilk_lines.specs.Lines.{Bytes}
use Rattle.ilk_lines.proofs.TakenPieces.{token_taken}
use Rattle.ilk_log.proofs.log_text.LogText.take.Goals as goal

pub tokens-preserved : goal.tokens-preserved
tokens-preserved c =
    let l = c.tokens in
    let now = c.take-count-in-tokens in
    let empty = l.invariant.2 c.tokens-test.true in
    token_taken c.args.self.now l.into now.new.into c.next_piece.new.token now.new.self c.next_piece.new.self l.count now.result
    l.invariant.1 (search rules)
    (l.invariant.0 ∙ ap (λ (t : Bytes). take l.count l.into ++ (t ++ l.self-inside.left)) empty ∙ ap (λ (t : Bytes). take l.count l.into ++ t) c.next_piece.ensures.bytes)
    (search rules) now.ensures.bytes now.ensures.rest
