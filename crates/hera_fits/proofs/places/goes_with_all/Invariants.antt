use Rattle.std.proofs.Common.{◌≡◌, drop}
use Rattle.std.specs.List.{list_all}
use Rattle.hera_fits.specs.Joins.{goes_with}
use Rattle.hera_fits.proofs.places.goes_with_all.Given as goal

abbrev pub invariant-loop-i : goal.invariant-loop-i
invariant-loop-i l = list_all (goes_with l.a) (drop l.i l.right) ≡ list_all (goes_with l.a) l.right
