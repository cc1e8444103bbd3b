use Rattle.std.proofs.Common.{◌++◌, ◌∷◌, [], ℕ, Bool, List, false, refl, sym, ap, ◌∙◌, subst, arith, length, length-append}
use Rattle.ilk_cnf.specs.Literal.{Literal}
use Rattle.ilk_lines.specs.Lines.{Bytes}
use Rattle.ilk_rup.specs.Items.{IsSetUnlessTautology}
use Rattle.ilk_rup.proofs.FirstItem.{Before, before-next, before-start, read-bad, read-cut, read-end}
use Rattle.ilk_rup.proofs.Items.{are-more, are-none}
use Rattle.ilk_cnf.specs.Formula.{is_lit_over}
use Rattle.ilk_rup.proofs.Items.{literal-in}
use Rattle.ilk_rup.proofs.item.read_literals.Goals as goal

pub put-requires : goal.put-requires
put-requires c = ap (λ (n : ℕ). is_lit_over n c.in-Some.l) (c.words.invariant.vars ∙ c.requires.vars) ∙ literal-in c.args.vars c.words.word.now c.in-Some.l (sym c.literal_of.ensures ∙ c.in-Some.is)

pub words-init : goal.words-init
words-init c =
    let P : List Literal → Type 0 = λ s. IsSetUnlessTautology [] s false in
    record { vars = refl; read = ([], before-start c.args.vars (c.args.first.now ∷ c.args.words.now), subst P (sym c.requires.empty) are-none) }

pub returns-then-is_item_end_word-clause-read : goal.returns-then-is_item_end_word-clause-read
returns-then-is_item_end_word-clause-read c =
    let v = c.words.invariant.read in
    let whole = c.args.first.now ∷ c.args.words.now in
    let word = c.words.word.now in
    let e = read-end c.args.vars whole c.words.words word v.0 v.1 (sym c.is_item_end_word.ensures ∙ c.if-is_item_end_word.true) in
    let long = ap length v.1.whole in
    let split = length-append v.1.front (word ∷ c.words.words) in
    (e.0, v.0, e.1, e.2, v.2, omega (arith, long, split))

pub returns-in-None-clause-read : goal.returns-in-None-clause-read
returns-in-None-clause-read c =
    let v = c.words.invariant.read in
    read-bad c.args.vars (c.args.first.now ∷ c.args.words.now) c.words.words c.words.word.now v.0 v.1 (sym c.is_item_end_word.ensures ∙ c.if-is_item_end_word.false) (sym c.literal_of.ensures ∙ c.in-None.is)

pub returns-in-None-next-clause-read : goal.returns-in-None-next-clause-read
returns-in-None-next-clause-read c =
    let v = c.words.invariant.read in
    let P : List Bytes → Type 0 = λ rest. Before c.args.vars (c.args.first.now ∷ c.args.words.now) (c.words.word.now ∷ rest) v.0 in
    read-cut c.args.vars (c.args.first.now ∷ c.args.words.now) c.words.word.now v.0 (subst P c.in-None-next.ensures.none v.1) (sym c.is_item_end_word.ensures ∙ c.if-is_item_end_word.false)

pub words-preserved : goal.words-preserved
words-preserved c =
    let v = c.words.invariant.read in
    let n = c.args.vars in
    let whole = c.args.first.now ∷ c.args.words.now in
    let l = c.in-Some.l in
    let W : List Bytes → Type 0 = λ rest. Before n whole rest (v.0 ++ l ∷ []) in
    let B : Bool → Type 0 = λ b. IsSetUnlessTautology (v.0 ++ l ∷ []) c.put.new.set.lits b in
    record {
      vars = c.put.ensures.vars ∙ c.words.invariant.vars;
      read = (
        v.0 ++ l ∷ [],
        subst W c.in-Some-next.ensures.word (before-next n whole c.words.words c.words.word.now v.0 l v.1 (sym c.is_item_end_word.ensures ∙ c.if-is_item_end_word.false) (sym c.literal_of.ensures ∙ c.in-Some.is)),
        subst B (sym c.either-both.ensures) (are-more v.0 c.words.set.lits c.put.new.set.lits l c.words.both c.put.result v.2 c.put.ensures.put),
      );
    }
