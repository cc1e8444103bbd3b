use Rattle.std.proofs.Common.{rules}
use Rattle.ilk_model.specs.declared.event.Event.TheVariants.{Allocate, Lock, Sense, Release, Finish, Throw, Settle, Head, Tail, Leave}
use Rattle.ilk_drive.proofs.Found.{grown}
use Rattle.ilk_drive.proofs.automatic.automatic_events.Goals as goal

pub returns : goal.returns
returns c =
    let e1 = grown _ _ _ Allocate _ _ c.routes-routes.ensures c.new-events.ensures (c.in_ok-push_numbers.ensures Allocate (λ x e small post. search rules)) in
    let e2 = grown _ _ _ Lock _ _ c.routes-routes.ensures e1 (c.in_ok-push_numbers-2.ensures Lock (λ x e small post. search rules)) in
    let e3 = grown _ _ _ Sense _ _ c.routes-routes.ensures e2 (c.in_ok-push_numbers-3.ensures Sense (λ x e small post. search rules)) in
    let e4 = grown _ _ _ Release _ _ c.routes-routes.ensures e3 (c.in_ok-push_numbers-4.ensures Release (λ x e small post. search rules)) in
    let e5 = grown _ _ _ Finish _ _ c.routes-routes.ensures e4 (c.in_ok-push_numbers-5.ensures Finish (λ x e small post. search rules)) in
    let e6 = grown _ _ _ Throw _ _ c.sections-sections.ensures e5 (c.in_ok-push_numbers-6.ensures Throw (λ x e small post. search rules)) in
    let e7 = grown _ _ _ Settle _ _ c.sections-sections.ensures e6 (c.in_ok-push_numbers-7.ensures Settle (λ x e small post. search rules)) in
    let e8 = grown _ _ _ Head _ _ c.sections-sections.ensures e7 (c.in_ok-push_numbers-8.ensures Head (λ x e small post. search rules)) in
    let e9 = grown _ _ _ Tail _ _ c.sections-sections.ensures e8 (c.in_ok-push_numbers-9.ensures Tail (λ x e small post. search rules)) in
    let e10 = grown _ _ _ Leave _ _ c.sections-sections.ensures e9 (c.in_ok-push_numbers-10.ensures Leave (λ x e small post. search rules)) in
    e10
