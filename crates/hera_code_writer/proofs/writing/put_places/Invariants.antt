use Rattle.std.specs.Prelude.{◌≡◌, ◌++◌, take, length}
use Rattle.std.specs.List.{flat_map}
use Rattle.hera_code_file.specs.Printing.{word}
use Rattle.hera_code_writer.proofs.writing.put_places.Given as goal

abbrev pub invariant-loop-place : goal.invariant-loop-place
invariant-loop-place l = l.out.items ≡ l.fn.out.items ++ (word (length l.places) ++ flat_map word (take l.place-index l.places))
