use Rattle.std.specs.Prelude.{◌≡◌, ◌++◌, ◌∷◌, take, length}
use Rattle.std.specs.List.{flat_map}
use Rattle.rel_format.specs.Pages.{name_bytes, attr_bytes}
use Rattle.rel_format.proofs.writing.push_decl.Given as goal

abbrev pub invariant-loop-i : goal.invariant-loop-i
invariant-loop-i l = l.bytes.items ≡ l.fn.bytes.items ++ (name_bytes l.decl.name ++ length l.decl.schema ∷ flat_map attr_bytes (take l.i l.decl.schema))
