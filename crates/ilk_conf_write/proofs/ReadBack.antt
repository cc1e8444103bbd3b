-- Written drafts are read back exactly.
use Rattle.std.proofs.Common.{◌≡◌, ◌∙◌, ℕ, suc, ◌+◌, ◌≤◌, Bool, true, ◌==◌, ◌&&◌, Option, Some, None, IfOk, Result, Ok, Err, List, [], ◌∷◌, All, length, map, false, refl, sym, ap, ap₂, subst, arith}
use Rattle.std.specs.List.{list_all}
use Rattle.std.proofs.lemmas.Bool.{eqb-true, le-leb}
use Rattle.std.proofs.lemmas.List.Elements.{All-cons, All-head, All-nil, All-tail}
use Rattle.std.specs.Str.{IsUtf8}
use Rattle.serde_json.specs.Data.{Data, string, depth, items_depth}
use Rattle.serde_json.specs.Read.{read, max_depth}
use Rattle.serde_json.specs.Written.{compact_text, has_float, items_have_float}
use Rattle.serde_json.specs.Events.{items_len}
use Rattle.serde_json.specs.Find.{as_str}
use Rattle.serde_json.specs.View.{items_of}
use Rattle.ilk_base.specs.Result.{try_map_numbered}
use Rattle.ilk_plant.specs.Limits.{WithinLimits, section_and_route_counts_allowed, route_within_limits, are_names_in_route_valid, are_names_in_section_valid}
use Rattle.ilk_plant.specs.Name.{Name}
use Rattle.ilk_plant.specs.declared.draft.KindDraft.{KindDraft}
use Rattle.ilk_plant.specs.declared.draft.KindDraft.TheVariants.{Linear, Point}
use Rattle.ilk_plant.specs.declared.draft.ListedDraft.{ListedDraft}
use Rattle.ilk_plant.specs.declared.draft.NetDraft.{NetDraft}
use Rattle.ilk_plant.specs.declared.draft.RouteDraft.{RouteDraft}
use Rattle.ilk_plant.specs.declared.draft.SectionDraft.{SectionDraft}
use Rattle.ilk_plant.specs.declared.draft.TableDraft.{TableDraft}
use Rattle.ilk_plant.specs.declared.limits.TheConstants.{MAX_ROUTES, MAX_SECTIONS}
use Rattle.ilk_plant.proofs.WordsBack.{direction_back, position_back}
use Rattle.ilk_net_read.specs.Document.{VersionedDocument, has_allowed_section_route_counts}
use Rattle.ilk_net_read.specs.Member.{as_optional_text, all_entries_as, items_to_list}
use Rattle.ilk_net_read.specs.Network.{document_from_value, network_from_conf_value, section_from_value}
use Rattle.ilk_net_read.specs.Section.{as_section}
use Rattle.ilk_net_read.specs.declared.version.Version.{Version}
use Rattle.ilk_net_read.specs.declared.version.Version.TheVariants.{First, Second}
use Rattle.ilk_table_read.specs.Route.{as_listed_point, as_route}
use Rattle.ilk_table_read.specs.Table.{net_and_table_drafts_from_text, route_draft_from_value, table_draft_from_conf_value}
use Rattle.ilk_net_read.proofs.Values.{value_of-read}
use Rattle.ilk_conf_write.specs.ConfigurationText.{configuration_text, configuration_value, table_fits_version, route_has_no_protection, listed_point_value, text_or_null_value, route_value, section_value}

and-first : (a b : Bool) → (a && b) ≡ true → a ≡ true
and-first true b e = refl
and-first false b e = absurd (cc)

and-second : (a b : Bool) → (a && b) ≡ true → b ≡ true
and-second true b e = e
and-second false b e = absurd (cc)

abbrev IsRouteIn : Version → RouteDraft → Type 0
IsRouteIn First route = (route.protecting_points ≡ []) × (route.protecting_boards ≡ [])
IsRouteIn Second route = Unit {0}

none-of : {A : Type 0} (xs : List A) → (length xs == 0) ≡ true → xs ≡ []
none-of [] e = refl
none-of (x ∷ xs) e = absurd (omega (arith, eqb-true (length (x ∷ xs)) 0 e))

unprotected : (r : RouteDraft) → route_has_no_protection r ≡ true → IsRouteIn First r
unprotected r e = (
  none-of r.protecting_points (and-first (length r.protecting_points == 0) (length r.protecting_boards == 0) e),
  none-of r.protecting_boards (and-second (length r.protecting_points == 0) (length r.protecting_boards == 0) e),
)

all-unprotected : (rs : List RouteDraft) → list_all route_has_no_protection rs ≡ true → All (IsRouteIn First) rs
all-unprotected [] e = All-nil (IsRouteIn First)
all-unprotected (r ∷ rs) e =
    All-cons (IsRouteIn First) r rs (unprotected r (and-first (route_has_no_protection r) (list_all route_has_no_protection rs) e)) (all-unprotected rs (and-second (route_has_no_protection r) (list_all route_has_no_protection rs) e))

each-in : (version : Version) (table : TableDraft) → table_fits_version version table ≡ true → All (IsRouteIn version) table.routes
each-in First table e = all-unprotected table.routes e
each-in Second table e = λ k d lt. tt

optional-read : (x : Option Name) → as_optional_text (text_or_null_value x) ≡ Some x
optional-read None = refl
optional-read (Some text) = refl

section-read : (s : SectionDraft) → as_section (section_value s) ≡ Some s
section-read s = by_kind s.kind
  where
    by_kind : (kind : KindDraft) → as_section (section_value (record { name = s.name; kind = kind })) ≡ Some (record { name = s.name; kind = kind })
    by_kind (Linear down up board_down board_up) = rw (optional-read down, optional-read up, optional-read board_down, optional-read board_up) refl
    by_kind (Point stem plus minus faces) = rw (direction_back faces) refl

listed-read : (l : ListedDraft) → as_listed_point (listed_point_value l) ≡ Some l
listed-read l = rw (position_back l.at) refl

texts-read : (texts : List Name) → all_entries_as as_str (items_of (map string texts)) ≡ Some texts
texts-read [] = refl
texts-read (text ∷ texts) = rw (texts-read texts) refl

points-read : (points : List ListedDraft) → all_entries_as as_listed_point (items_of (map listed_point_value points)) ≡ Some points
points-read [] = refl
points-read (point ∷ points) = rw (listed-read point, points-read points) refl

entries : (ds : List Data) → items_to_list (items_of ds) ≡ ds
entries [] = refl
entries (d ∷ ds) = ap (λ rest. d ∷ rest) (entries ds)

count : {A : Type 0} (value : A → Data) (xs : List A) → items_len (items_of (map value xs)) ≡ length xs
count value [] = refl
count value (x ∷ xs) = ap suc (count value xs)

route-read : (version : Version) (r : RouteDraft) → IsRouteIn version r → as_route version (route_value version r) ≡ Some r
route-read First r none =
    rw (optional-read r.destination, texts-read r.path, texts-read r.overlap, points-read r.points, texts-read r.conflicts) (ap Some (bare r none.0 none.1))
  where
    bare : (r : RouteDraft) → r.protecting_points ≡ [] → r.protecting_boards ≡ [] → record r { protecting_points = []; protecting_boards = [] } ≡ r
    bare r points boards = ap₂ (λ p b. record r { protecting_points = p; protecting_boards = b }) (sym points) (sym boards)
route-read Second r none =
    rw (optional-read r.destination, texts-read r.path, texts-read r.overlap, points-read r.points, texts-read r.conflicts, points-read r.protecting_points, texts-read r.protecting_boards) refl

section-of-read : (i : ℕ) (s : SectionDraft) → are_names_in_section_valid s ≡ true → section_from_value i (section_value s) ≡ Ok s
section-of-read i s named = rw (section-read s, named) refl

sections-read : (i : ℕ) (ss : List SectionDraft) → list_all are_names_in_section_valid ss ≡ true → try_map_numbered section_from_value i (map section_value ss) ≡ Ok ss
sections-read i [] named = refl
sections-read i (s ∷ ss) named =
    rw (section-of-read i s (and-first (are_names_in_section_valid s) (list_all are_names_in_section_valid ss) named), sections-read (i + 1) ss (and-second (are_names_in_section_valid s) (list_all are_names_in_section_valid ss) named)) refl

route-of-read : (version : Version) (i : ℕ) (r : RouteDraft) → IsRouteIn version r → are_names_in_route_valid r ≡ true → route_within_limits r ≡ true → route_draft_from_value version i (route_value version r) ≡ Ok r
route-of-read version i r in_version named limited = rw (route-read version r in_version, named, limited) refl

routes-read : (version : Version) (i : ℕ) (rs : List RouteDraft) → All (IsRouteIn version) rs → list_all are_names_in_route_valid rs ≡ true → list_all route_within_limits rs ≡ true →
    try_map_numbered (route_draft_from_value version) i (map (route_value version) rs) ≡ Ok rs
routes-read version i [] in_version named limited = refl
routes-read version i (r ∷ rs) in_version named limited =
    let first : route_draft_from_value version i (route_value version r) ≡ Ok r = route-of-read version i r
    (All-head (IsRouteIn version) r rs in_version)
    (and-first (are_names_in_route_valid r) (list_all are_names_in_route_valid rs) named)
    (and-first (route_within_limits r) (list_all route_within_limits rs) limited) in
    let rest : try_map_numbered (route_draft_from_value version) (i + 1) (map (route_value version) rs) ≡ Ok rs = routes-read
    version (i + 1) rs (All-tail (IsRouteIn version) r rs in_version)
    (and-second (are_names_in_route_valid r) (list_all are_names_in_route_valid rs) named)
    (and-second (route_within_limits r) (list_all route_within_limits rs) limited) in
    rw (first, rest) refl

abbrev parts_of : Version → NetDraft → TableDraft → VersionedDocument
parts_of version net table = record {
  version = version;
  sections = items_of (map section_value net.sections);
  routes = items_of (map (route_value version) table.routes);
}

counts-read : (version : Version) (net : NetDraft) (table : TableDraft) → WithinLimits net table → has_allowed_section_route_counts (parts_of version net table) ≡ true
counts-read version net table limits =
    ap₂ section_and_route_counts_allowed (count section_value net.sections) (count (route_value version) table.routes)
    ∙ rw (le-leb 1 (length net.sections) limits.of_network.some, le-leb (length net.sections) MAX_SECTIONS limits.of_network.few, le-leb (length table.routes) MAX_ROUTES limits.of_table.few) refl

document-read : (version : Version) (net : NetDraft) (table : TableDraft) → WithinLimits net table → document_from_value (configuration_value version net table) ≡ Ok (parts_of version net table)
document-read First net table limits = rw (counts-read First net table limits) refl
document-read Second net table limits = rw (counts-read Second net table limits) refl

network-read : (version : Version) (net : NetDraft) (table : TableDraft) → WithinLimits net table → network_from_conf_value (configuration_value version net table) ≡ Ok net
network-read version net table limits =
    rw (document-read version net table limits, entries (map section_value net.sections), sections-read 0 net.sections limits.of_network.named) refl

table-read : (version : Version) (net : NetDraft) (table : TableDraft) → WithinLimits net table → table_fits_version version table ≡ true → table_draft_from_conf_value (configuration_value version net table) ≡ Ok table
table-read version net table limits in_version =
    rw (document-read version net table limits, entries (map (route_value version) table.routes), routes-read version 0 table.routes (each-in version table in_version) limits.of_table.named limits.of_table.each) refl

items-shallow : {A : Type 0} (value : A → Data) (n : ℕ) → ((x : A) → depth (value x) ≤ n) → (xs : List A) → items_depth (items_of (map value xs)) ≤ n
items-shallow value n each [] = omega arith
items-shallow value n each (x ∷ xs) = omega (arith, each x, items-shallow value n each xs)

optional-flat : (x : Option Name) → depth (text_or_null_value x) ≡ 0
optional-flat None = refl
optional-flat (Some text) = refl

section-shallow : (s : SectionDraft) → depth (section_value s) ≤ 1
section-shallow s = by_kind s.kind
  where
    by_kind : (kind : KindDraft) → depth (section_value (record { name = s.name; kind = kind })) ≤ 1
    by_kind (Linear down up board_down board_up) = rw (optional-flat down, optional-flat up, optional-flat board_down, optional-flat board_up) (omega arith)
    by_kind (Point stem plus minus faces) = omega arith

texts-shallow : (texts : List Name) → items_depth (items_of (map string texts)) ≤ 0
texts-shallow = items-shallow string 0 (λ x. omega arith)

points-shallow : (points : List ListedDraft) → items_depth (items_of (map listed_point_value points)) ≤ 1
points-shallow = items-shallow listed_point_value 1 (λ x. omega arith)

route-shallow : (version : Version) (r : RouteDraft) → depth (route_value version r) ≤ 3
route-shallow First r = omega (arith, optional-flat r.destination, texts-shallow r.path, texts-shallow r.overlap, points-shallow r.points, texts-shallow r.conflicts)
route-shallow Second r =
    omega (arith, optional-flat r.destination, texts-shallow r.path, texts-shallow r.overlap, points-shallow r.points, texts-shallow r.conflicts, points-shallow r.protecting_points, texts-shallow r.protecting_boards)

pub depth-few : (version : Version) (net : NetDraft) (table : TableDraft) → depth (configuration_value version net table) ≤ max_depth
depth-few version net table =
    omega (arith, items-shallow section_value 1 section-shallow net.sections, items-shallow (route_value version) 3 (route-shallow version) table.routes)

pub text-read : (version : Version) (net : NetDraft) (table : TableDraft) (text : List ℕ) →
    WithinLimits net table → table_fits_version version table ≡ true → IsUtf8 text →
    read text ≡ Some (configuration_value version net table) → net_and_table_drafts_from_text text ≡ Ok (net, table)
text-read version net table text limits in_version utf8 is =
    rw (value_of-read text (configuration_value version net table) utf8 is, network-read version net table limits, table-read version net table limits in_version) refl

items-whole : {A : Type 0} (value : A → Data) → ((x : A) → has_float (value x) ≡ false) → (xs : List A) → items_have_float (items_of (map value xs)) ≡ false
items-whole value each [] = refl
items-whole value each (x ∷ xs) = rw (each x, items-whole value each xs) refl

optional-whole : (x : Option Name) → has_float (text_or_null_value x) ≡ false
optional-whole None = refl
optional-whole (Some text) = refl

section-whole : (s : SectionDraft) → has_float (section_value s) ≡ false
section-whole s = by_kind s.kind
  where
    by_kind : (kind : KindDraft) → has_float (section_value (record { name = s.name; kind = kind })) ≡ false
    by_kind (Linear down up board_down board_up) = rw (optional-whole down, optional-whole up, optional-whole board_down, optional-whole board_up) refl
    by_kind (Point stem plus minus faces) = refl

texts-whole : (texts : List Name) → items_have_float (items_of (map string texts)) ≡ false
texts-whole = items-whole string (λ x. refl)

points-whole : (points : List ListedDraft) → items_have_float (items_of (map listed_point_value points)) ≡ false
points-whole = items-whole listed_point_value (λ x. refl)

route-whole : (version : Version) (r : RouteDraft) → has_float (route_value version r) ≡ false
route-whole First r = rw (optional-whole r.destination, texts-whole r.path, texts-whole r.overlap, points-whole r.points, texts-whole r.conflicts) refl
route-whole Second r =
    rw (optional-whole r.destination, texts-whole r.path, texts-whole r.overlap, points-whole r.points, texts-whole r.conflicts, points-whole r.protecting_points, texts-whole r.protecting_boards) refl

pub no-float : (version : Version) (net : NetDraft) (table : TableDraft) → has_float (configuration_value version net table) ≡ false
no-float First net table = rw (items-whole section_value section-whole net.sections, items-whole (route_value First) (route-whole First) table.routes) refl
no-float Second net table = rw (items-whole section_value section-whole net.sections, items-whole (route_value Second) (route-whole Second) table.routes) refl

pub text-of :
    {A E : Type 0} (bytes : A → List ℕ) (written : Result A E) (d : Data) (version : Version) (net : NetDraft)
    (table : TableDraft) →
    d ≡ configuration_value version net table →
    IfOk written (λ b. has_float d ≡ false → bytes b ≡ compact_text d) →
    IfOk written (λ b. bytes b ≡ configuration_text version net table)
text-of bytes (Err e) d version net table same told = tt
text-of bytes (Ok b) d version net table same told =
    told (ap has_float same ∙ no-float version net table) ∙ ap compact_text same

pub read-of :
    {A E : Type 0} (bytes : A → List ℕ) (written : Result A E) (d : Data) (version : Version) (net : NetDraft)
    (table : TableDraft) →
    WithinLimits net table → table_fits_version version table ≡ true → d ≡ configuration_value version net table →
    IfOk written (λ b. IsUtf8 (bytes b)) → IfOk written (λ b. depth d ≤ max_depth → read (bytes b) ≡ Some d) →
    IfOk written (λ b. net_and_table_drafts_from_text (bytes b) ≡ Ok (net, table))
read-of bytes (Err e) d version net table limits in_version same utf8 told = tt
read-of bytes (Ok b) d version net table limits in_version same utf8 told =
    let shallow : depth d ≤ max_depth = subst (λ (v : Data). depth v ≤ max_depth) (sym same) (depth-few version net table) in
    text-read version net table (bytes b) limits in_version utf8 (told shallow ∙ ap Some same)
