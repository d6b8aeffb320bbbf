use Rattle.std.proofs.Common.{◌∙◌, sym, ap}
use Rattle.std.specs.Prelude.{is_some}
use Rattle.hera_sets.specs.Rows.{is_same}
use Rattle.hera_meaning.specs.Catalogues.{decl_name}
use Rattle.hera_meaning.specs.declared.schemas.RelDecl.{RelDecl}
use Rattle.hera_types_parts.proofs.Equal.{any_map}
use Rattle.hera_types_globals.proofs.Names.{some-position, some-map}
use Rattle.hera_types_globals.proofs.relations.is_declared.Goals as goal

pub returns : goal.returns
returns c =
    c.is_some.ensures ∙ sym (some-map (λ r. r.0) c.find.result) ∙ ap is_some c.find.ensures.place
    ∙ some-position (λ (d : RelDecl). is_same c.args.name.now d.name) 0 c.args.relations.now
    ∙ sym (any_map decl_name (is_same c.args.name.now) c.args.relations.now)
