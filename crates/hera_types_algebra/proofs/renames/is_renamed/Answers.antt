use Rattle.std.proofs.Common.{◌∙◌, sym}
use Rattle.hera_sets.specs.Rows.{is_same}
use Rattle.hera_rules.specs.declared.words.Renamed.{Renamed}
use Rattle.hera_types_parts.proofs.Equal.{any_map}
use Rattle.hera_types_algebra.proofs.renames.is_renamed.Goals as goal

pub returns : goal.returns
returns c = c.any_renamed.ensures ∙ sym (any_map (λ (r : Renamed). r.old.name) (is_same c.args.name.now) c.args.renamed.now)
