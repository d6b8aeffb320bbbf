use Rattle.std.proofs.Common.{◌≡◌, map, take}
use Rattle.hera_sets.specs.Rows.{normal}
use Rattle.hera_meaning.specs.Values.{row_in}
use Rattle.hera_prims.proofs.sets.make_rel.Given as goal

abbrev pub invariant-loop-i : goal.invariant-loop-i
invariant-loop-i l = l.rows ≡ normal (map row_in (take l.i l.args))
