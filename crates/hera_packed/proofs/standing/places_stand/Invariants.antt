use Rattle.std.proofs.Common.{take}
use Rattle.std.specs.List.{AllByRecursion}
use Rattle.hera_code_file.specs.Fitting.{IsWord}
use Rattle.hera_packed.proofs.standing.places_stand.Given as goal

abbrev pub invariant-loop-place : goal.invariant-loop-place
invariant-loop-place l = AllByRecursion IsWord (take l.place-index l.places)
