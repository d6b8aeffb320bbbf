use Rattle.std.proofs.Common.{◌∙◌, ap}
use Rattle.std.specs.List.{position}
use Rattle.hera_sets.specs.Rows.{is_same}
use Rattle.hera_rules.specs.Environments.{local_named}
use Rattle.hera_rules.specs.Programs.{local_name}
use Rattle.hera_types_parts.specs.NameSets.{at_place}
use Rattle.hera_types_parts.proofs.Sets.{named_at}
use Rattle.hera_types_parts.proofs.local_names.LocalNames.local.Goals as goal

pub returns : goal.returns
returns c =
    let held = c.self.inside.scope.locals.items in
    c.item_at.ensures ∙ ap (λ xs. at_place xs c.place.result) c.deref.ensures.value
    ∙ ap (at_place held) (c.place.ensures ∙ ap (position (is_same c.args.name.now)) c.self.invariant)
    ∙ named_at local_name c.args.name.now held
    ∙ ap (λ s. local_named c.args.name.now s.locals.items) c.self.view_is
