use Rattle.std.proofs.Common.{◌∙◌}
use Rattle.rel_format.proofs.Names.{any_named}
use Rattle.rel_format.proofs.fields.has_attr.Goals as goal

pub returns : goal.returns
returns c = c.any_named.ensures ∙ any_named c.args.attrs.now c.args.name.now
