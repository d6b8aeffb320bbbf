use Rattle.std.proofs.Common.{◌∙◌, ap, sym, take}
use Rattle.std.proofs.lemmas.List.{take-map}
use Rattle.hera_types_parts.specs.NameSets.{bytes_of, names_in}
use Rattle.hera_types_parts.proofs.name_sets.NameSet.truncate.Goals as goal

pub returns : goal.returns
returns c = ap names_in c.truncate.ensures.keys ∙ sym (take-map bytes_of c.args.count c.self.inside.names.keys) ∙ ap (take c.args.count) c.self.view_is
