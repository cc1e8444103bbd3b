-- A text is read as commands if and only if it is written for them, and the reported line is the
-- first bad one.
use Rattle.std.proofs.Common.{◌≡◌, ℕ, ◌+◌, ◌-◌, ◌<◌, ◌≤◌, Bool, true, false, All, Some, Result, Ok, Err, List, [], ◌∷◌, ◌++◌, codes, drop, get_or, length, map, take, refl, sym, ap, ◌∙◌, subst, suc, arith, append-nil, append_assoc}
use Rattle.std.specs.Prelude.{◌↔◌, IsTrue, nat_lt}
use Rattle.std.proofs.lemmas.Bool.Decides.{nat_tests}
use Rattle.std.proofs.lemmas.List.Elements.{All-cons}
use Rattle.std.proofs.lemmas.Option.{cond_some}
use Rattle.ilk_base.specs.Option.{then_some}
use Rattle.ilk_base.specs.Result.{◌>>=◌}
use Rattle.ilk_base.proofs.Lists.{drop-mapped}
use Rattle.ilk_base.proofs.Options.{bind_some}
use Rattle.ilk_base.proofs.Results.{bind_ok, err_is, ok_is, ok_no_err}
use Rattle.ilk_lines.specs.Lines.{Bytes, unterminated_tail, lines_of}
use Rattle.ilk_lines.specs.Reading.{expect_first_line, expect_end_of_text, leading_values}
use Rattle.ilk_lines.specs.Written.{LacksByte, text_of}
use Rattle.ilk_lines.proofs.ByLine.{IsByLine, after_by_line, leading_by_line, leading_then}
use Rattle.ilk_lines.proofs.FirstBad.{ReadsWritten, end_by_line, end_then, first_exactly, from_text, text_exactly}
use Rattle.ilk_lines.proofs.EachTold.{expect_first_line-joins, expect_end_of_text-ends}
use Rattle.ilk_lines.proofs.Leading.{leading_all, leading_back, leading_lines}
use Rattle.ilk_lines.proofs.TextLines.{lines_back, text-lines}
use Rattle.ilk_plant.specs.Plant.{IsPlant, PlantLists}
use Rattle.ilk_model.specs.declared.event.Event.{Event}
use Rattle.ilk_replay.specs.EventLine.{event_from_line}
use Rattle.ilk_replay.specs.RunText.{event_line}
use Rattle.ilk_replay.specs.Writable.{IsEventSubjectOfPlant}
use Rattle.ilk_replay.proofs.OfPlant.{event_from_line-about}
use Rattle.ilk_replay.proofs.PlainNames.{plain_names}
use Rattle.ilk_replay.proofs.ReadBack.{event_back}
use Rattle.ilk_replay.proofs.StartedBack.{event_lines-plain}
use Rattle.ilk_replay.proofs.Written.{event_from_line-line}
use Rattle.ilk_drive.specs.CommandLine.{command_from_line}
use Rattle.ilk_drive.specs.Commands.{is_command}
use Rattle.ilk_drive.specs.Scene.{commands_from_lines, scene_from_text}
use Rattle.ilk_drive.specs.SceneText.{HasNoBadLine, IsFirstBadLineOfScene, AreCommandsOfPlant, IsSceneText, IsTextOfScene, scene_lines, scene_text}
use Rattle.ilk_drive.specs.declared.scene.Scene.{Scene}
use Rattle.ilk_drive.specs.declared.scene.Scene.TheVariants.{Bad, Scene as IsScene}
use Rattle.ilk_drive.proofs.Scenes.{told-commands}

command_back : (p : PlantLists) → IsPlant p → (event : Event) → IsTrue (is_command event) → IsEventSubjectOfPlant p event → command_from_line p (event_line p event) ≡ Some event
command_back p plant event is about = rw (event_back p plant event about, is) refl

record IsCommandLine (p : PlantLists) (line : Bytes) (event : Event) : Type 0 where
  own : line ≡ event_line p event
  about : IsEventSubjectOfPlant p event

command_from_line-written : (p : PlantLists) → IsPlant p → (line : Bytes) (event : Event) → command_from_line p line ≡ Some event → IsCommandLine p line event
command_from_line-written p plant line event e =
    let a = bind_some (event_from_line p line) (λ found. then_some (is_command found) found) event e in
    let passed = cond_some (is_command a.0) a.0 event a.2 in
    record {
      own = event_from_line-line p line a.0 a.1 ∙ ap (event_line p) passed.1;
      about = subst (IsEventSubjectOfPlant p) passed.1 (event_from_line-about p plant line a.0 a.1);
    }

told-scene : (p : PlantLists) → IsPlant p → (lines : List Bytes) (bytes : Bytes) (commands : List Event) → commands_from_lines p lines bytes ≡ Ok commands → AreCommandsOfPlant p commands × (lines ≡ scene_lines p commands) × (bytes ≡ [])
told-scene p plant lines bytes commands e =
    let second = bind_ok (expect_first_line (codes "drive 1") 1 lines) _ commands e in
    let found : List Event = leading_values (command_from_line p) second.0 in
    let more = bind_ok (expect_first_line (codes "end") (2 + length found) (drop (length found) second.0)) _ commands second.2 in
    let end = bind_ok (expect_end_of_text (2 + length found + 1) more.0 bytes) _ commands more.2 in
    let last = expect_end_of_text-ends (2 + length found + 1) more.0 bytes end.1 in
    let tells = command_from_line-written p plant in (
      record {
        commanded = told-commands p lines bytes commands e;
        about = subst (All (IsEventSubjectOfPlant p)) (ok_is end.2) (leading_all (command_from_line p) (IsEventSubjectOfPlant p) (λ line event is. (tells line event is).about) second.0);
      },
      expect_first_line-joins (codes "drive 1") 1 lines second.0 second.1
          ∙ ap (λ ls. codes "drive 1" ∷ ls) (leading_lines (command_from_line p) (event_line p) (λ line event is. (tells line event is).own) second.0
          ∙ ap (λ ls. map (event_line p) found ++ ls) (expect_first_line-joins (codes "end") (2 + length found) (drop (length found) second.0) more.0 more.1)
          ∙ ap (λ ls. map (event_line p) found ++ codes "end" ∷ ls) last.0)
          ∙ ap (scene_lines p) (ok_is end.2),
      last.1,
    )

lines_told : (p : PlantLists) → IsPlant p → (commands : List Event) → AreCommandsOfPlant p commands → commands_from_lines p (scene_lines p commands) [] ≡ Ok commands
lines_told p plant commands is =
    let lines : List Bytes = map (event_line p) commands ++ codes "end" ∷ [] in
    let told : All (λ event. command_from_line p (event_line p event) ≡ Some event) commands = λ k d within. command_back p plant (get_or commands k d) (is.commanded k d within) (is.about k d within) in
    ap (λ (es : List Event). expect_first_line (codes "end") (2 + length es) (drop (length es) lines) >>= (λ more. expect_end_of_text (2 + length es + 1) more [] >>= (λ none. Ok es)))
    (leading_back (command_from_line p) (event_line p) commands (codes "end") [] told refl)
    ∙ ap (λ (ls : List Bytes). expect_first_line (codes "end") (2 + length commands) ls >>= (λ more. expect_end_of_text (2 + length commands + 1) more [] >>= (λ none. Ok commands))) (drop-mapped (event_line p) commands (codes "end" ∷ []))

abbrev answered : Result (List Event) ℕ → Scene
answered (Ok commands) = IsScene commands
answered (Err n) = Bad n

answered_ok : (r : Result (List Event) ℕ) (commands : List Event) → answered r ≡ IsScene commands → r ≡ Ok commands
answered_ok (Ok found) commands e = (let same : found ≡ commands = cc in ap (λ (x : List Event). Ok x) same)
answered_ok (Err n) commands e = cc

answered_bad : (r : Result (List Event) ℕ) (n : ℕ) → answered r ≡ Bad n → r ≡ Err n
answered_bad (Ok found) n e = cc
answered_bad (Err m) n e = (let same : m ≡ n = cc in ap (λ k. Err k) same)

text_told : (p : PlantLists) → IsPlant p → (commands : List Event) → AreCommandsOfPlant p commands → from_text (commands_from_lines p) (scene_text p commands) ≡ Ok commands
text_told p plant commands is =
    let lines : List Bytes = map (event_line p) commands ++ codes "end" ∷ [] in
    let back = lines_back (scene_lines p commands) (All-cons (LacksByte 10) (codes "drive 1") lines refl (event_lines-plain p (plain_names p plant) commands)) in
    ap (λ (ls : List Bytes). commands_from_lines p ls (unterminated_tail (scene_text p commands))) back.0
    ∙ ap (λ (bs : Bytes). commands_from_lines p (scene_lines p commands) bs) back.1
    ∙ lines_told p plant commands is

reads_scenes : (p : PlantLists) → IsPlant p → ReadsWritten (AreCommandsOfPlant p) (scene_lines p) (commands_from_lines p)
reads_scenes p plant = record {
  back = text_told p plant;
  has = λ lines bytes commands e. (told-scene p plant lines bytes commands e).0;
  lines_are = λ lines bytes commands e. (told-scene p plant lines bytes commands e).1;
  none_after = λ lines bytes commands e. (told-scene p plant lines bytes commands e).2;
}

pub told_exactly : (p : PlantLists) → IsPlant p → (text : Bytes) (commands : List Event) → (scene_from_text p text ≡ IsScene commands) ↔ IsTextOfScene p commands text
told_exactly p plant text commands =
    let law = text_exactly (AreCommandsOfPlant p) (scene_lines p) (commands_from_lines p) (reads_scenes p plant) text commands in
    (λ e. law.0 (answered_ok (from_text (commands_from_lines p) text) commands e), λ is. ap answered (law.1 is))

pub no_line_bad : (p : PlantLists) → IsPlant p → (text : Bytes) → HasNoBadLine p text ↔ IsSceneText p text
no_line_bad p plant text = (λ none. by_scene (scene_from_text p text) refl none, λ some n bad. let told = (told_exactly p plant text some.0).1 some.1 in cc)
  where
    by_scene : (scene : Scene) → scene_from_text p text ≡ scene → HasNoBadLine p text → IsSceneText p text
    by_scene (IsScene commands) e none = (commands, (told_exactly p plant text commands).0 e)
    by_scene (Bad n) e none = absurd (none n e)

told_by_line : (p : PlantLists) → IsByLine 1 (commands_from_lines p)
told_by_line p = after_by_line (codes "drive 1") 1 (leading_then (command_from_line p) (codes "end") 2 end_then) (leading_by_line (command_from_line p) (codes "end") 2 end_then refl end_by_line)

pub bad_exactly : (p : PlantLists) → IsPlant p → (text : Bytes) (n : ℕ) → (scene_from_text p text ≡ Bad n) ↔ IsFirstBadLineOfScene p text n
bad_exactly p plant text n =
    let law = first_exactly (AreCommandsOfPlant p) (scene_lines p) (commands_from_lines p) (reads_scenes p plant) (told_by_line p) text n in
    (λ e. law.0 (answered_bad (from_text (commands_from_lines p) text) n e), λ first. ap answered (law.1 first))
