-- The part of a content that successive calls wrote to a sink.
use Rattle.std.proofs.Common.{◌≡◌, ℕ, false, Option, Result, Ok, Err, OnOk, List, ◌++◌, take, drop, sym, ap, ◌∙◌, append_assoc, is_err}
use Rattle.std.proofs.lemmas.List.{take-append-drop}
use Rattle.ilk_io.proofs.Added.{Adds-then, Written, Written-prefix}
use Rattle.ilk_io.specs.Sink.{Appends, AppendsPrefix}

pub Written-front : (old new after : Option (List ℕ)) (text rest piece left : List ℕ) → Written old new text rest → rest ≡ piece ++ left → Appends new after piece → Written old after text left
Written-front old new after text rest piece left w front adds = record {
  done = w.done ++ piece;
  split = w.split ∙ ap (λ tail. w.done ++ tail) front ∙ sym (append_assoc w.done piece left);
  adds = Adds-then old new after w.done piece w.adds adds;
}

pub Written-cut : (old new after : Option (List ℕ)) (text rest piece left : List ℕ) → Written old new text rest → rest ≡ piece ++ left → AppendsPrefix new after piece → AppendsPrefix old after text
Written-cut old new after text rest piece left w front cut =
    let part : List ℕ = take cut.0 piece in
    let more : Written old after text (drop cut.0 piece ++ left) = Written-front old new after text rest part
    (drop cut.0 piece ++ left) w
    (front ∙ ap (λ all. all ++ left) (sym (take-append-drop cut.0 piece))
    ∙ append_assoc part (drop cut.0 piece) left) cut.2 in
    Written-prefix old after text (drop cut.0 piece ++ left) more

pub front-taken : (n : ℕ) (rest into left : List ℕ) → take n into ≡ take n rest → left ≡ drop n rest → rest ≡ take n into ++ left
front-taken n rest into left bytes behind =
    sym (take-append-drop n rest) ∙ ap (λ front. front ++ drop n rest) (sym bytes) ∙ ap (λ tail. take n into ++ tail) (sym behind)

pub went-well : {A E : Type 0} (P : Type 0) (r : Result A E) → is_err r ≡ false → OnOk r P → P
went-well P (Ok x) e h = h
went-well P (Err x) e h = absurd (cc)
