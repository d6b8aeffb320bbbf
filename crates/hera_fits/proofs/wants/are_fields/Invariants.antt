use Rattle.std.proofs.Common.{◌≡◌, drop}
use Rattle.std.specs.Prelude.{map}
use Rattle.hera_meaning.specs.Fits.{a_scalar, all_meet}
use Rattle.hera_fits.proofs.wants.are_fields.Given as goal

abbrev pub invariant-loop-i : goal.invariant-loop-i
invariant-loop-i l = all_meet (drop l.i (map (λ a. a_scalar a.kind) l.schema)) (drop l.i l.args) ≡ all_meet (map (λ a. a_scalar a.kind) l.schema) l.args
