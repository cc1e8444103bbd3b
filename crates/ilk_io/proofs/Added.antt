-- The bytes that consecutive calls add to a sink.
use Rattle.std.proofs.Common.{◌≡◌, ℕ, Option, Some, None, List, [], ◌++◌, length, take, drop, refl, sym, ap, ◌∙◌, append_assoc, append-nil, length-append, ◌-◌, subst, arith}
use Rattle.std.proofs.Math.Seq.{take-append_seam}
use Rattle.std.proofs.lemmas.List.{take-append-drop, take_rest}
use Rattle.std.specs.Option.{option_map}
use Rattle.ilk_io.specs.Sink.{Appends, AppendsPrefix}

pub Adds-none : (a b : Option (List ℕ)) → b ≡ a → Appends a b []
Adds-none None b e = e
Adds-none (Some x) b e = e ∙ ap Some (sym (append-nil x))

pub Adds-then : (a b c : Option (List ℕ)) (xs ys : List ℕ) → Appends a b xs → Appends b c ys → Appends a c (xs ++ ys)
Adds-then None b c xs ys p q = q ∙ ap (option_map (λ all. all ++ ys)) p
Adds-then (Some x) b c xs ys p q =
    q ∙ ap (option_map (λ all. all ++ ys)) p ∙ ap Some (append_assoc x xs ys)

pub record Written (old new : Option (List ℕ)) (text rest : List ℕ) : Type 0 where
  pub done : List ℕ
  pub split : text ≡ done ++ rest
  pub adds : Appends old new done

pub Written-none : (old : Option (List ℕ)) (text : List ℕ) → Written old old text text
Written-none old text = record { done = []; split = refl; adds = Adds-none old old refl }

pub Written-more : (old new after : Option (List ℕ)) (text rest : List ℕ) (n : ℕ) → Written old new text rest → Appends new after (take n rest) → Written old after text (take (length rest - n) (drop n rest))
Written-more old new after text rest n w more = record {
  done = w.done ++ take n rest;
  split =
      w.split
      ∙ ap (λ tail. w.done ++ tail) (sym (take-append-drop n rest) ∙ ap (λ tail. take n rest ++ tail) (sym (take_rest rest n)))
      ∙ sym (append_assoc w.done (take n rest) (take (length rest - n) (drop n rest)));
  adds = Adds-then old new after w.done (take n rest) w.adds more;
}

pub Written-empty : (old new : Option (List ℕ)) (text rest : List ℕ) → Written old new text rest → text ≡ [] → length rest ≡ 0
Written-empty old new text rest w e =
    omega (arith, ap length (sym w.split ∙ e), length-append w.done rest)

pub Written-prefix : (old new : Option (List ℕ)) (text rest : List ℕ) → Written old new text rest → AppendsPrefix old new text
Written-prefix old new text rest w =
    let whole : take (length w.done) text ≡ w.done = ap (take (length w.done)) w.split ∙ take-append_seam w.done rest in
    (length w.done, omega (arith, ap length w.split, length-append w.done rest), subst (Appends old new) (sym whole) w.adds)
