use Rattle.std.proofs.Common.{rules}
use Rattle.rel_format.proofs.Lengths.{len_of}
use Rattle.rel_format.proofs.small.first_len.Goals as goal

pub returns-clause-value : goal.returns-clause-value
returns-clause-value c = len_of c.args.schema.now c.args.bytes.now c.row_len.result (λ i. search rules) c.row_len.ensures.row c.row_len.ensures.none
