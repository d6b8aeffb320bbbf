use Rattle.std.proofs.Common.{◌∙◌, ap, sym, map, take}
use Rattle.std.proofs.lemmas.List.{take-map}
use Rattle.hera_rules.specs.Programs.{local_name}
use Rattle.hera_types_parts.proofs.local_names.LocalNames.leave.Goals as goal

pub invariant_of-self : goal.invariant_of-self
invariant_of-self c =
    c.truncate-2.ensures ∙ ap (take c.args.depth) c.self.invariant ∙ take-map local_name c.args.depth c.self.inside.scope.locals.items
    ∙ ap (map local_name) (sym c.truncate.ensures.items)
