use Rattle.std.proofs.Common.{ℕ, ◌++◌, ◌∷◌, [], ◌∙◌, ap, flat_map}
use Rattle.std.specs.Global.{Vec}
use Rattle.std.specs.Prelude.{codes}
use Rattle.ilk_lines.specs.Lines.{Bytes}
use Rattle.ilk_lines.specs.Written.{text_of}
use Rattle.ilk_replay.proofs.RunTexts.{text_is}
use Rattle.ilk_replay.proofs.run_writing.write_run.Goals as goal
use Rattle.ilk_replay.specs.RunText.{beginning_lines, event_line}

pub returns : goal.returns
returns c =
    let p = c.args.plant.now in
    let told = c.args.told.now in
    let begins : Bytes = text_of (beginning_lines p told.from_start told.first) in
    let events : Bytes = flat_map (λ event. event_line p event ++ 10 ∷ []) told.events in
    let end : Bytes = codes "end\n" in
    ap (λ (v : Vec ℕ). v.items) c.into_bytes.ensures.value
    ∙ c.in_ok-push_str.ensures.bytes
    ∙ ap (λ (t : Bytes). t ++ end) (c.in_ok-push_events.ensures ∙ ap (λ (t : Bytes). t ++ events) (c.in_ok-push_beginning.ensures ∙ ap (λ (t : Bytes). t ++ begins) c.in_ok-text.ensures.ok))
    ∙ text_is p told
