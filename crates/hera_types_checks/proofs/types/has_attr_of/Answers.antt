use Rattle.std.proofs.Common.{◌∙◌, sym}
use Rattle.hera_sets.specs.Rows.{is_same}
use Rattle.hera_meaning.specs.declared.schemas.Attr.{Attr}
use Rattle.hera_types_parts.proofs.Equal.{any_map}
use Rattle.hera_types_checks.proofs.types.has_attr_of.Goals as goal

pub returns : goal.returns
returns c = c.any_attr.ensures ∙ sym (any_map (λ (a : Attr). a.name) (is_same c.args.name.now) c.args.attrs.now)
