use Rattle.std.proofs.Common.{◌∙◌, ap}
use Rattle.std.specs.List.{position}
use Rattle.hera_sets.specs.Rows.{is_same}
use Rattle.hera_rules.specs.Environments.{proc_named}
use Rattle.hera_types_parts.specs.NameSets.{at_place, proc_name}
use Rattle.hera_types_parts.proofs.Sets.{named_at}
use Rattle.hera_types_parts.proofs.global_names.GlobalNames.procedure.Goals as goal

pub returns : goal.returns
returns c =
    let held = c.self.inside.globals.procs.items in
    c.item_at.ensures ∙ ap (λ xs. at_place xs c.place.result) c.deref.ensures.value
    ∙ ap (at_place held) (c.place.ensures ∙ ap (position (is_same c.args.name.now)) c.self.invariant.1)
    ∙ named_at proc_name c.args.name.now held
    ∙ ap (λ g. proc_named c.args.name.now g.procs.items) c.self.view_is
