use Rattle.std.proofs.Common.{◌≡◌, map, take}
use Rattle.hera_meaning.specs.Catalogues.{decl_name}
use Rattle.hera_types_globals.proofs.signatures.relation_names.Given as goal

abbrev pub invariant-loop-decl : goal.invariant-loop-decl
invariant-loop-decl l = l.names ≡ map decl_name (take l.decl-index l.decl-items)
