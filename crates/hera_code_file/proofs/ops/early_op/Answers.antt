use Rattle.hera_code_file.proofs.ops.early_op.Goals as goal

pub returns-then-number-lt7 : goal.returns-then-number-lt7
returns-then-number-lt7 c = c.arithmetic.ensures c.args.bytes.now

pub returns-then-number-lt14 : goal.returns-then-number-lt14
returns-then-number-lt14 c = c.comparison.ensures c.args.bytes.now

pub returns-then-number-lt21 : goal.returns-then-number-lt21
returns-then-number-lt21 c = c.set_op.ensures c.args.bytes.now

pub returns : goal.returns
returns c = c.size_op.ensures c.args.bytes.now
