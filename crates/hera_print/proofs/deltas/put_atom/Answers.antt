use Rattle.std.proofs.Common.{length}
use Rattle.std.proofs.lemmas.Bool.{and_parts, ltb-true}
use Rattle.hera_print.proofs.deltas.put_atom.Goals as goal

pub decl_of-decl-requires : goal.decl_of-decl-requires
decl_of-decl-requires c = ltb-true c.args.atom.rel.0 (length c.args.catalogue.now) (and_parts _ _ c.requires).0

pub put_row-requires : goal.put_row-requires
put_row-requires c = rw c.decl_of-decl.ensures.schema (and_parts _ _ c.requires).1
