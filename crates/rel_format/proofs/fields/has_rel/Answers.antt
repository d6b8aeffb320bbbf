use Rattle.std.proofs.Common.{◌∙◌, sym, refl}
use Rattle.hera_row.proofs.EntryLemmas.{held-found}
use Rattle.rel_format.proofs.fields.has_rel.Goals as goal

pub returns : goal.returns
returns c = c.is_some.ensures ∙ sym (held-found c.find.result c.args.name.now c.args.name.now c.args.rels.now refl c.find.ensures.number)
