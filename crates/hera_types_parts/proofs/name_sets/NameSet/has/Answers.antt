use Rattle.std.proofs.Common.{◌∙◌, ap}
use Rattle.hera_sets.specs.Rows.{holds}
use Rattle.hera_types_parts.proofs.Sets.{keys_hold}
use Rattle.hera_types_parts.proofs.name_sets.NameSet.has.Goals as goal

pub returns : goal.returns
returns c = c.contains.ensures ∙ keys_hold c.args.name.now c.self.inside.names.keys ∙ ap (λ ns. holds ns c.args.name.now) c.self.view_is
