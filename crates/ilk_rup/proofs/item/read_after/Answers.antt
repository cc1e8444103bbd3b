use Rattle.std.proofs.Common.{◌∷◌, [], List, sym, ◌∙◌, subst}
use Rattle.ilk_lines.specs.Lines.{Bytes}
use Rattle.ilk_rup.specs.declared.item.ItemKind.{ItemKind}
use Rattle.ilk_rup.specs.declared.item.ItemKind.TheVariants.{Malformed}
use Rattle.ilk_rup.specs.Items.{IsItemRead, AreItemLiteralsRead}
use Rattle.ilk_rup.proofs.Items.{kept-alone, kept-read, plain-read}
use Rattle.ilk_rup.proofs.item.read_after.Goals as goal

pub returns-then-not-is_keep-clause-read : goal.returns-then-not-is_keep-clause-read
returns-then-not-is_keep-clause-read c =
    let word = c.args.word.now in
    let set = c.read_literals.new.set.lits in
    let left = c.read_literals.new.words in
    let P : ItemKind → Type 0 = λ i. IsItemRead c.args.vars (word ∷ c.args.words.now) set left i in
    subst P (sym c.plain_item.ensures) (plain-read c.args.vars word c.args.words.now set left c.read_literals.result (sym c.is_keep.ensures ∙ c.if-not-is_keep.true) c.read_literals.ensures.read)

pub returns-in-None-clause-read : goal.returns-in-None-clause-read
returns-in-None-clause-read c =
    let word = c.args.word.now in
    let k = kept-alone c.args.vars word (sym c.is_keep.ensures ∙ c.if-not-is_keep.false) in
    let P : List Bytes → Type 0 = λ rest. IsItemRead c.args.vars (word ∷ rest) c.args.set.now.lits c.next.new.self Malformed in
    subst P (sym c.in-None.ensures.none) (word ∷ [], [], k.0, k.1)

pub returns-in-Some-clause-read : goal.returns-in-Some-clause-read
returns-in-Some-clause-read c =
    let word = c.args.word.now in
    let set = c.read_literals-in-Some.new.set.lits in
    let left = c.read_literals-in-Some.new.words in
    let P : ItemKind → Type 0 = λ i. IsItemRead c.args.vars (word ∷ c.args.words.now) set left i in
    let R : List Bytes → Type 0 = λ ws. AreItemLiteralsRead c.args.vars ws set left c.read_literals-in-Some.result in
    subst P (sym c.kept_item.ensures) (kept-read c.args.vars word c.args.words.now set left c.read_literals-in-Some.result (sym c.is_keep.ensures ∙ c.if-not-is_keep.false) (subst R (sym c.in-Some.ensures.word) c.read_literals-in-Some.ensures.read))
