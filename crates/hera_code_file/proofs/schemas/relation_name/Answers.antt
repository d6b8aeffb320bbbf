use Rattle.std.proofs.Common.{◌∙◌, sym, map}
use Rattle.hera_meaning.specs.Catalogues.{decl_name}
use Rattle.hera_code_file.proofs.Told.{any_named, name_stands, name_taken, no_name}
use Rattle.hera_code_file.proofs.schemas.relation_name.Goals as goal

pub returns-then-any_named-clause-name : goal.returns-then-any_named-clause-name
returns-then-any_named-clause-name c = name_taken (map decl_name c.args.before.now) c.args.len c.args.bytes.now c.in-Some.name.now c.in-Some.ensures.name (sym (any_named c.args.before.now c.in-Some.name.now) ∙ sym c.any_named.ensures ∙ c.if-any_named.true)

pub returns-else-any_named-clause-name : goal.returns-else-any_named-clause-name
returns-else-any_named-clause-name c = name_stands (map decl_name c.args.before.now) c.args.len c.args.bytes.now c.in-Some.name.now c.in-Some.ensures.name (sym (any_named c.args.before.now c.in-Some.name.now) ∙ sym c.any_named.ensures ∙ c.if-any_named.false)

pub returns-in-None-clause-name : goal.returns-in-None-clause-name
returns-in-None-clause-name c = no_name (map decl_name c.args.before.now) c.args.len c.args.bytes.now c.in-None.ensures.name
