use Rattle.ilk_plant.proofs.NumberedLists.{plant_from_drafts-lists}
use Rattle.ilk_plant.proofs.numbered_drafts.NumberedNetAndTable.from_drafts_with_names.Goals as goal

pub returns : goal.returns
returns c =
    plant_from_drafts-lists c.args.net.now c.args.table.now c.args.names.section_names c.args.names.board_names
    c.in_ok-route_names.field-0.route_names c.in_ok-route_names.field-0.sections c.args.names.boards
    c.in_ok-route_names.field-0.routes c.requires.named.section_names c.requires.named.board_names
    c.in_ok-route_names.ensures.names c.in_ok-route_names.ensures.sections c.requires.named.boards
    c.in_ok-route_names.ensures.routes
