-- The bytes written for a run are its text.
use Rattle.std.proofs.Common.{◌≡◌, List, [], ◌∷◌, ◌++◌, map, flat_map, refl, sym, ap, ◌∙◌, append_assoc}
use Rattle.std.specs.Prelude.{codes}
use Rattle.ilk_lines.specs.Lines.{Bytes}
use Rattle.ilk_lines.specs.Written.{text_of}
use Rattle.ilk_plant.specs.Plant.{PlantLists}
use Rattle.ilk_model.specs.declared.event.Event.{Event}
use Rattle.ilk_replay.specs.RunText.{beginning_lines, event_line, run_text}
use Rattle.ilk_replay.specs.declared.told.Told.{Told}
use Rattle.ilk_lines.proofs.TextLines.{text_of-append}

events-are : (p : PlantLists) (events : List Event) → flat_map (λ event. event_line p event ++ 10 ∷ []) events ≡ text_of (map (event_line p) events)
events-are p [] = refl
events-are p (event ∷ events) = ap (λ (t : Bytes). (event_line p event ++ 10 ∷ []) ++ t) (events-are p events)

pub text_is : (p : PlantLists) (told : Told) → ((codes "run 1\n" ++ text_of (beginning_lines p told.from_start told.first)) ++ flat_map (λ event. event_line p event ++ 10 ∷ []) told.events) ++ codes "end\n" ≡ run_text p told
text_is p told =
    let b : List Bytes = beginning_lines p told.from_start told.first in
    let e : List Bytes = map (event_line p) told.events in
    let parts : run_text p told ≡ codes "run 1\n" ++ ((text_of b ++ text_of e) ++ codes "end\n") =
    ap (λ (t : Bytes). codes "run 1\n" ++ t) (text_of-append (b ++ e) (codes "end" ∷ []) ∙ ap (λ (t : Bytes). t ++ codes "end\n") (text_of-append b e)) in
    ap (λ (t : Bytes). ((codes "run 1\n" ++ text_of b) ++ t) ++ codes "end\n") (events-are p told.events)
    ∙ regroup (codes "run 1\n") (text_of b) (text_of e) (codes "end\n") ∙ sym parts
  where
    regroup : (a b c d : Bytes) → ((a ++ b) ++ c) ++ d ≡ a ++ ((b ++ c) ++ d)
    regroup a b c d = simp append_assoc
