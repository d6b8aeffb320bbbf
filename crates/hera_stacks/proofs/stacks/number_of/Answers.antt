use Rattle.std.proofs.lemmas.Option.{slice_get_within}
use Rattle.std.proofs.lemmas.Result.{IfOk-weaker}
use Rattle.hera_stacks.proofs.Keeping.{entries_grow, lists_grow, lists_there, list_node}
use Rattle.hera_stacks.proofs.stacks.number_of.Goals as goal

pub returns-in_err-entry-clause-grows : goal.returns-in_err-entry-clause-grows
returns-in_err-entry-clause-grows c =
    let cells = c.args.lists.now.cells.items in
    entries_grow c.args.entries.now.all.items c.place_of.new.self.all.items cells cells c.in_err-entry.ensures.grows c.requires.kept.there

pub returns-clause-kept : goal.returns-clause-kept
returns-clause-kept c =
    let before = c.args.entries.now.all.items in
    let after = c.place_of.new.self.all.items in
    record {
      found = c.in_ok-entry.ensures.found;
      placed = c.with.ensures.placed;
      there = lists_there before after c.args.lists.now.cells.items c.with.new.self.cells.items c.in_ok-entry.ensures.grows c.requires.kept.there _ c.with.ensures.adds (slice_get_within after c.in_ok-entry.entry _ c.in_ok-entry.ensures.place);
    }

pub returns-clause-grows : goal.returns-clause-grows
returns-clause-grows c =
    let before = c.args.entries.now.all.items in
    let after = c.place_of.new.self.all.items in
    lists_grow before after c.args.lists.now.cells.items c.with.new.self.cells.items c.in_ok-entry.ensures.grows c.requires.kept.there _ c.with.ensures.adds

pub returns-clause-number : goal.returns-clause-number
returns-clause-number c =
    let after = c.place_of.new.self.all.items in
    IfOk-weaker c.with.result _ _ (λ list at. list_node after c.with.new.self.cells.items list _ _ at c.in_ok-entry.ensures.place) c.with.ensures.number
