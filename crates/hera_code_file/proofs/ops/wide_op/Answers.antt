use Rattle.std.proofs.Common.{◌≡◌, arith}
use Rattle.hera_code_file.proofs.ops.wide_op.Goals as goal

pub returns-in_default : goal.returns-in_default
returns-in_default c =
    let n : c.args.number ≡ 22 = omega arith in
    rw n c.group.ensures
