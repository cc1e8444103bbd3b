-- Example networks: a plain line of two sections, a line with a neighbour missing, rings and forks.
-- Used only in private contracts.
use Rattle.std.specs.Prelude.{ℕ, Option, Some, None, [], ◌∷◌}
use Rattle.ilk_plant.specs.Name.{Name}
use Rattle.ilk_plant.specs.declared.broken.Broken.{Broken}
use Rattle.ilk_plant.specs.declared.broken.Rule.{Rule}
use Rattle.ilk_plant.specs.declared.draft.KindDraft.TheVariants.{Linear as LinearDraft, Point as PointDraft}
use Rattle.ilk_plant.specs.declared.draft.NetDraft.{NetDraft}
use Rattle.ilk_plant.specs.declared.draft.SectionDraft.{SectionDraft}
use Rattle.ilk_plant.specs.declared.network.Dir.TheVariants.{Up}

abbrev pub a : Name
a = 97 ∷ []

abbrev pub b : Name
b = 98 ∷ []

abbrev pub c : Name
c = 99 ∷ []

abbrev pub p : Name
p = 112 ∷ []

abbrev pub plain : Name → Option Name → Option Name → SectionDraft
plain name down up = record { name = name; kind = LinearDraft down up None None }

-- Section `a`, with a board for up trains.
abbrev pub first : Option Name → SectionDraft
first up = record { name = a; kind = LinearDraft None up None (Some (109 ∷ [])) }

-- Section `b`, with a board for down trains.
abbrev pub last : SectionDraft
last = record { name = b; kind = LinearDraft (Some a) None (Some (110 ∷ [])) None }

-- The line of two sections, `a` and `b`, that name each other and have a board each.
abbrev pub line_of_two : NetDraft
line_of_two = record { sections = first (Some b) ∷ last ∷ [] }

-- The line of two sections, but `a` doesn't name its neighbour `b`.
abbrev pub line_linked_one_way : NetDraft
line_linked_one_way = record { sections = first None ∷ last ∷ [] }

-- The line in which `a` doesn't name `b`, with a third section that is also named `b`.
abbrev pub line_linked_one_way_with_duplicate : NetDraft
line_linked_one_way_with_duplicate = record { sections = first None ∷ last ∷ plain b None None ∷ [] }

-- Three linear sections in a ring.
abbrev pub ring_of_three : NetDraft
ring_of_three = record { sections = plain a (Some c) (Some b) ∷ plain b (Some a) (Some c) ∷ plain c (Some b) (Some a) ∷ [] }

-- A network of one section that names itself on both sides.
abbrev pub loop_of_one : NetDraft
loop_of_one = record { sections = plain a (Some a) (Some a) ∷ [] }

-- A point that faces up, with stem `a` and legs `b` and `c`.
abbrev pub point : SectionDraft
point = record { name = p; kind = PointDraft a b c Up }

-- A line that divides in two at a point.
abbrev pub fork : NetDraft
fork = record { sections = plain a None (Some p) ∷ point ∷ plain b (Some p) None ∷ plain c (Some p) None ∷ [] }

-- The fork, but the section on the minus leg names the point on its up side.
abbrev pub fork_with_turned_leg : NetDraft
fork_with_turned_leg = record { sections = plain a None (Some p) ∷ point ∷ plain b (Some p) None ∷ plain c None (Some p) ∷ [] }

-- The fork, but the section on the minus leg leads back to `a`.
abbrev pub fork_with_ring : NetDraft
fork_with_ring = record { sections = plain a (Some c) (Some p) ∷ point ∷ plain b (Some p) None ∷ plain c (Some p) (Some a) ∷ [] }

abbrev pub at : Rule → ℕ → Broken
at rule i = record { rule = rule; first = i; second = None }
