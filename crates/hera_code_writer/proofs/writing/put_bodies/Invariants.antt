use Rattle.std.specs.Prelude.{◌≡◌, ◌++◌, take, length}
use Rattle.std.specs.List.{flat_map, AllByRecursion}
use Rattle.hera_code_file.specs.Printing.{word, body_bytes}
use Rattle.hera_code_file.specs.Fitting.{BodyFits}
use Rattle.hera_code_file.specs.Files.{file_bodies}
use Rattle.hera_code_writer.proofs.writing.put_bodies.Given as goal

abbrev pub invariant-loop-k : goal.invariant-loop-k
invariant-loop-k l = record {
  text : l.out.items ≡ l.fn.out.items ++ (word (length (file_bodies l.bodies l.notes)) ++ flat_map body_bytes (take l.k (file_bodies l.bodies l.notes)));
  fits : AllByRecursion BodyFits (take l.k (file_bodies l.bodies l.notes));
}
