use Rattle.std.specs.Prelude.{◌≡◌, ◌++◌, take, length}
use Rattle.std.specs.List.{flat_map}
use Rattle.std.specs.Int.{to_be_bytes, w16}
use Rattle.rel_format.specs.Pages.{decl_bytes}
use Rattle.hera_code_writer.proofs.putting.put_relations.Given as goal

abbrev pub invariant-loop-decl : goal.invariant-loop-decl
invariant-loop-decl l = l.out.items ≡ l.fn.out.items ++ (to_be_bytes w16 (length l.relations) ++ flat_map decl_bytes (take l.decl-index l.relations))
