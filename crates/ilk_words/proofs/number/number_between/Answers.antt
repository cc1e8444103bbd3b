use Rattle.std.proofs.Common.{ap, rules, ◌∙◌, Some, ℕ}
use Rattle.ilk_words.proofs.Numbers.{no_number_read, number_read}
use Rattle.ilk_words.proofs.number.number_between.Goals as goal

pub returns-in-Ok-clause-number : goal.returns-in-Ok-clause-number
returns-in-Ok-clause-number c =
    let read = c.in-Ok.ensures.value.0 in
    ap (λ (n : ℕ). Some n) read.1 ∙ number_read c.args.least c.args.most c.args.value.now (read.0.0, read.0.1, search rules, search rules)

pub returns-in_default-3-clause-number : goal.returns-in_default-3-clause-number
returns-in_default-3-clause-number c =
    no_number_read c.args.least c.args.most c.args.value.now (λ h. c.in_default.ensures.value.0 (h.0, h.1))
