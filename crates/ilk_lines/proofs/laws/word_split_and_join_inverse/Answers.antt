use Rattle.std.proofs.Common.{ap, ◌∙◌}
use Rattle.ilk_lines.specs.Words.{strip_word_and_space, split_at_first_space}
use Rattle.ilk_lines.proofs.LineWords.{strip_word_and_space-joins, first_back, split_at_first_space-joins, line-words, word_back, words_back}
use Rattle.ilk_lines.proofs.laws.word_split_and_join_inverse.Goals as goal

pub returns : goal.returns
returns c = record {
  whole = line-words c.args.line.now;
  words = words_back;
  first = λ word rest. (λ e. split_at_first_space-joins c.args.line.now word rest e, λ is. ap split_at_first_space is.0 ∙ first_back word rest is.1);
  after = λ word rest. (λ e. strip_word_and_space-joins word c.args.line.now rest e, λ e. ap (strip_word_and_space word) e ∙ word_back word rest);
}
