use Rattle.std.proofs.Common.{sym, arith}
use Rattle.hera_row.proofs.Zeros.{zero_found}
use Rattle.rel_pages.proofs.Leadings.{int_there, bool_there, text_there, no_end}
use Rattle.rel_pages.proofs.leading.piece_len.Goals as goal

pub returns-in-Int-clause-length : goal.returns-in-Int-clause-length
returns-in-Int-clause-length c = rw c.in-Int.is (int_there c.args.bytes.now (rw c.in-Int.is at c.requires)).len

pub returns-in-Int-clause-within : goal.returns-in-Int-clause-within
returns-in-Int-clause-within c = (int_there c.args.bytes.now (rw c.in-Int.is at c.requires)).within

pub returns-in-Bool-clause-length : goal.returns-in-Bool-clause-length
returns-in-Bool-clause-length c = rw c.in-Bool.is (bool_there c.args.bytes.now (rw c.in-Bool.is at c.requires)).len

pub returns-in-Bool-clause-within : goal.returns-in-Bool-clause-within
returns-in-Bool-clause-within c = (bool_there c.args.bytes.now (rw c.in-Bool.is at c.requires)).within

pub returns-in-Some-clause-length : goal.returns-in-Some-clause-length
returns-in-Some-clause-length c = rw c.in-Text.is (text_there c.args.bytes.now c.in-Some.n (sym c.in-Some.ensures) (rw c.in-Text.is at c.requires))

pub returns-in-Some-clause-within : goal.returns-in-Some-clause-within
returns-in-Some-clause-within c = let found = zero_found c.args.bytes.now c.in-Some.n (sym c.in-Some.ensures) in omega (arith, found.1)

pub unreachable-requires : goal.unreachable-requires
unreachable-requires c = no_end c.args.bytes.now (sym c.in-None.ensures) (rw c.in-Text.is at c.requires)
