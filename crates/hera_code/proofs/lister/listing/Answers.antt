use Rattle.std.proofs.Common.{add-one, arith}
use Rattle.hera_code.proofs.Starts.{start_below_next, next_start_in_code}
use Rattle.hera_code.proofs.lister.listing.Goals as goal

pub put_lines-requires-clause-start : goal.put_lines-requires-clause-start
put_lines-requires-clause-start c = rw (c.end_of.ensures, c.as_slice-bodies.ensures, add-one) (start_below_next _ _ _ _ _ c.requires.starts (rw (← c.as_slice-bodies.ensures) c.loop-k-test.true))

pub put_lines-requires-clause-end : goal.put_lines-requires-clause-end
put_lines-requires-clause-end c = rw c.end_of.ensures (next_start_in_code _ _ _ _ c.requires.starts (omega arith))
