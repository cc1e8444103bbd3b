use Rattle.std.proofs.Common.{◌≡◌, ◌<◌, ℕ, List, Some, length, get_or, arith, ap, sym, ◌∙◌}
use Rattle.std.specs.List.{slice_get}
use Rattle.std.proofs.lemmas.List.{get_or_read}
use Rattle.std.proofs.lemmas.Option.{slice_get_read}
use Rattle.ilk_cnf.specs.Formula.{is_lit_over}
use Rattle.ilk_trail.specs.Trail.{TrailList, entry_of}
use Rattle.ilk_trail.specs.Laws.{is_set}
use Rattle.ilk_trail.proofs.Kept.{stands-at-place, within}
use Rattle.ilk_trail.proofs.trail.Trail.entry_of.Goals as goal

placed : (xs : List ℕ) (i v x : ℕ) → i ≡ v → v < length xs → x ≡ get_or xs i x → x ≡ get_or xs v 0
placed xs i v x e h r = get_or_read xs v x h (rw e at r) 0

pub index-requires : goal.index-requires
index-requires c =
    let s = c.self.inside in
    let v = c.args.l.var in
    let set = ap (λ (t : TrailList). is_set t.entries v) c.self.view_is ∙ c.requires.set in
    let k = stands-at-place s.values.items s.places.items _ _ v c.self.invariant set in
    let p = placed c.self.inside.places.items _ v _ (c.var.ensures) (within s.values.items s.places.items _ _ c.args.l c.self.invariant (ap (λ (t : TrailList). is_lit_over t.vars c.args.l) c.self.view_is ∙ c.requires.within)) c.index-place.ensures in
    omega (arith, p, k.1, s.entries.ok.0)

pub returns : goal.returns
returns c =
    let s = c.self.inside in
    let v = c.args.l.var in
    let set = ap (λ (t : TrailList). is_set t.entries v) c.self.view_is ∙ c.requires.set in
    let k = stands-at-place s.values.items s.places.items _ _ v c.self.invariant set in
    let p = placed c.self.inside.places.items _ v _ (c.var.ensures) (within s.values.items s.places.items _ _ c.args.l c.self.invariant (ap (λ (t : TrailList). is_lit_over t.vars c.args.l) c.self.view_is ∙ c.requires.within)) c.index-place.ensures in
    let r : slice_get s.entries.items c.index-place.result.now ≡ Some c.index.result.now = slice_get_read
    s.entries.items s.entries.len c.index-place.result.now c.index.result.now
    (omega (arith, s.entries.ok.0)) (omega (arith, p, k.1, s.entries.ok.0)) c.index.ensures in
    let t = ap (λ (t : TrailList). entry_of t.entries v) c.self.view_is in
    sym t ∙ sym k.0 ∙ ap (slice_get s.entries.items) (sym p) ∙ r
