use Rattle.std.proofs.Common.{◌≡◌, drop, length}
use Rattle.hera_effects.specs.Operations.{flat_all_agree}
use Rattle.hera_effects.proofs.cuts.all_agree.Given as goal

abbrev pub invariant-loop-i : goal.invariant-loop-i
invariant-loop-i l = record {
  long : length l.args ≡ length l.forms;
  rest : flat_all_agree (drop l.i l.args) (drop l.i l.forms) ≡ flat_all_agree l.args l.forms;
}
