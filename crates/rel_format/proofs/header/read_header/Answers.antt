use Rattle.std.proofs.Common.{rules}
use Rattle.rel_format.specs.Table.{at_rels}
use Rattle.rel_format.proofs.Steps.{start}
use Rattle.rel_format.proofs.Longest.{fault_is}
use Rattle.rel_format.proofs.Printed.{header_printed}
use Rattle.rel_format.proofs.header.read_header.Goals as goal

pub returns-in-Ok-clause-read : goal.returns-in-Ok-clause-read
returns-in-Ok-clause-read c = λ f same.
    let r = c.in-Ok.ensures.read f same (start f c.args.bytes.now) in
    record { catalogue = c.len.ensures.valid; printed = header_printed f c.args.bytes.now c.in-Ok.at c.in-Ok.rels (λ i. search rules) r; reached = r }

pub returns-in-Err-clause-read : goal.returns-in-Err-clause-read
returns-in-Err-clause-read c = λ f same. fault_is f c.args.bytes.now (λ rels. at_rels rels 0) c.in-Err.fault (c.in-Err.ensures.read f same)
