use Rattle.std.proofs.Common.{◌∙◌, ap}
use Rattle.std.specs.List.{position}
use Rattle.hera_sets.specs.Rows.{is_same}
use Rattle.hera_types_parts.proofs.Sets.{key_placed}
use Rattle.hera_types_parts.proofs.name_sets.NameSet.place.Goals as goal

pub returns : goal.returns
returns c = c.get_index_of.ensures.index ∙ key_placed c.args.name.now c.self.inside.names.keys ∙ ap (position (is_same c.args.name.now)) c.self.view_is
