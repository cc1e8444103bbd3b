-- The lines of the reports, and replies without a certificate.
use Rattle.std.specs.Prelude.{ℕ, List, [], ◌∷◌, ◌++◌, codes, decimal, slice_get, unwrap_or}
use Rattle.ilk_plant.specs.Plant.{PlantLists}
use Rattle.ilk_model.specs.declared.hazards.HazardAt.{HazardAt}
use Rattle.ilk_model.specs.declared.hazards.HazardAt.TheVariants.{Two, Wrong}
use Rattle.ilk_words.specs.Queries.{query_word}
use Rattle.ilk_words.specs.declared.command.QueryKind.{QueryKind}
use Rattle.ilk_answers.specs.declared.reply.Reply.{Reply}
use Rattle.ilk_answers.specs.declared.status.Status.{Status}

-- The reply with this status and report, and no certificate.
abbrev pub reply : Status → List ℕ → Reply
reply status report = record { status = status; report = report; certificate = [] }

abbrev pub section_name : PlantLists → ℕ → List ℕ
section_name p x = unwrap_or (slice_get p.section_names x) []

-- The text of a hazard: its kind and the name of its section.
abbrev pub hazard_text : PlantLists → HazardAt → List ℕ
hazard_text p (Two x) = codes "two " ++ section_name p x
hazard_text p (Wrong x) = codes "wrong " ++ section_name p x

abbrev pub hazard_line : PlantLists → HazardAt → List ℕ
hazard_line p at = codes "hazard " ++ hazard_text p at ++ 10 ∷ []

abbrev pub no_hazard_line : List ℕ
no_hazard_line = codes "no hazard" ++ 10 ∷ []

abbrev pub clean_line : List ℕ
clean_line = codes "clean" ++ 10 ∷ []

-- The report line of an input with this first bad line, from 1.
abbrev pub first_bad_line_message : ℕ → List ℕ
first_bad_line_message line = codes "rejected line " ++ decimal line ++ 10 ∷ []

-- The report line of a run text whose event `at`, from 1, is the first that isn't enabled or
-- follows a hazard.
abbrev pub first_non_run_event_message : ℕ → List ℕ
first_non_run_event_message at = codes "not a run at " ++ decimal at ++ 10 ∷ []

abbrev pub unsafe_line : PlantLists → ℕ → HazardAt → List ℕ
unsafe_line p steps at = codes "unsafe steps=" ++ (decimal steps ++ (codes " hazard=" ++ (hazard_text p at ++ 10 ∷ [])))

abbrev pub certificate_accepted_line : ℕ → List ℕ
certificate_accepted_line k = codes "accepted k=" ++ decimal k ++ 10 ∷ []

-- The report line of an accepted refutation: the query of this kind and number has no run.
abbrev pub query_has_no_run_line : QueryKind → ℕ → List ℕ
query_has_no_run_line kind n = codes "refuted " ++ (query_word kind ++ (codes " " ++ (decimal n ++ 10 ∷ [])))

-- The report line of a refutation with this first bad item, from 1.
abbrev pub first_bad_item_message : ℕ → List ℕ
first_bad_item_message item = codes "rejected item " ++ decimal item ++ 10 ∷ []
