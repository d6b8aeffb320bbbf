use Rattle.std.proofs.Common.{◌+◌, ◌≤◌, ap, sym, ◌∙◌, length, arith, length-take-le}
use Rattle.hera_row.proofs.Zeros.{through_zero-found, through_zero-missing, zero_found}
use Rattle.hera_row.proofs.pieces.piece_len.Goals as goal

pub returns-in-Some-clause-length : goal.returns-in-Some-clause-length
returns-in-Some-clause-length c =
    let found = zero_found c.args.bytes.now c.in-Some.n (sym c.in-Some.ensures) in
    let within : c.in-Some.n + 1 ≤ length c.args.bytes.now = omega (arith, found.1) in
    rw c.in-Text.is (sym (ap length (through_zero-found c.args.bytes.now c.in-Some.n (sym c.in-Some.ensures)) ∙ length-take-le (c.in-Some.n + 1) c.args.bytes.now within))

pub returns-in-None-clause-length : goal.returns-in-None-clause-length
returns-in-None-clause-length c = rw c.in-Text.is (ap length (sym (through_zero-missing c.args.bytes.now (sym c.in-None.ensures))))
