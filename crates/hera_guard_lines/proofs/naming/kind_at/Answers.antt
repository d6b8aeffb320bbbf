use Rattle.std.proofs.Common.{sym}
use Rattle.hera_guard_lines.proofs.Named.{kind_found}
use Rattle.hera_guard_lines.proofs.naming.kind_at.Goals as goal

pub returns : goal.returns
returns c = sym (kind_found c.args.schema.now c.args.place c.attr.result.now c.attr.ensures.attr)
