use Rattle.rel_pages.proofs.Beginnings.{OnPage}
use Rattle.rel_pages.proofs.starts.start_on.Given as goal

abbrev pub invariant-loop : goal.invariant-loop
invariant-loop l = record {
  on : OnPage l.schema l.one l.counter l.left;
}
