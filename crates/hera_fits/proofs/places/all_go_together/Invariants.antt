use Rattle.std.proofs.Common.{◌≡◌, drop}
use Rattle.std.specs.List.{list_all}
use Rattle.hera_fits.specs.Joins.{goes_with}
use Rattle.hera_fits.proofs.places.all_go_together.Given as goal

abbrev pub invariant-loop-i : goal.invariant-loop-i
invariant-loop-i l = list_all (λ a. list_all (goes_with a) l.right) (drop l.i l.left) ≡ list_all (λ a. list_all (goes_with a) l.right) l.left
