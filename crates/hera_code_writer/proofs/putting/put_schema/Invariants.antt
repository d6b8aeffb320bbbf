use Rattle.std.specs.Prelude.{◌≡◌, ◌++◌, ◌∷◌, take, length}
use Rattle.std.specs.List.{flat_map}
use Rattle.rel_format.specs.Pages.{attr_bytes}
use Rattle.hera_code_writer.proofs.putting.put_schema.Given as goal

abbrev pub invariant-loop-i : goal.invariant-loop-i
invariant-loop-i l = l.out.items ≡ l.fn.out.items ++ (length l.schema ∷ flat_map attr_bytes (take l.i l.schema))
