use Rattle.std.proofs.Common.{◌≡◌, length}
use Rattle.case_runs.proofs.session.sources_of.Given as goal

abbrev pub invariant-loop-place : goal.invariant-loop-place
invariant-loop-place l = length l.sources.items ≡ l.place
