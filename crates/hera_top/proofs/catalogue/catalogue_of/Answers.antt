use Rattle.std.proofs.Common.{◌≡◌, false, map, sym, subst}
use Rattle.hera_sets.specs.Rows.{holds}
use Rattle.hera_meaning.specs.declared.schemas.RelDecl.{RelDecl}
use Rattle.hera_meaning.specs.Catalogues.{decl_name}
use Rattle.hera_top.proofs.Distinct.{next_is_new}
use Rattle.hera_top.proofs.catalogue.catalogue_of.Goals as goal

pub add_relation-requires-clause-new : goal.add_relation-requires-clause-new
add_relation-requires-clause-new c =
    subst (λ (r : RelDecl). holds (map decl_name c.loop-relation.catalogue) r.name ≡ false) (sym c.relation-item.is)
    (next_is_new c.loop-relation.catalogue c.args.relations.now c.loop-relation.relation-index c.relation-item.result c.requires c.loop-relation.invariant c.loop-relation-test.true)
