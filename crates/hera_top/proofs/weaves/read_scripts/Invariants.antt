use Rattle.std.proofs.Common.{◌≡◌, length}
use Rattle.hera_top.proofs.Weaving.{IsOnTheWay}
use Rattle.hera_top.proofs.weaves.read_scripts.Given as goal

abbrev pub invariant-loop-i : goal.invariant-loop-i
invariant-loop-i g l = IsOnTheWay g.S.Source.left g.S.Source.faults l.hosts.names l.initial.sources.items l.i l.sources.items l.programs.items × (length l.initial.sources.items ≡ 0 → l.sources ≡ l.initial.sources)
