use Rattle.std.proofs.Common.{◌≤◌, length, subst, arith}
use Rattle.hera_code_file.specs.Fitting.{IsWord}
use Rattle.hera_code_writer.specs.Writable.{InstrStands}
use Rattle.hera_code_writer.proofs.Stands.{all_at, all_done}
use Rattle.hera_packed.proofs.standing.instrs_stand.Goals as goal

pub loop-at-preserved : goal.loop-at-preserved
loop-at-preserved c = all_at InstrStands c.args.instrs.now c.loop-at.at c.at.result.now c.at.ensures c.loop-at.invariant (c.instr_stands.ensures c.if-not-instr_stands.false)

pub returns : goal.returns
returns c =
    let le : length c.args.instrs.now ≤ c.loop-at.at = omega (arith, c.loop-at-test.false, c.len-at-end.ensures) in
    λ _. (subst IsWord c.len.ensures (c.is_word.ensures c.if-not-is_word.false), all_done InstrStands c.args.instrs.now c.loop-at.at le c.loop-at.invariant)
