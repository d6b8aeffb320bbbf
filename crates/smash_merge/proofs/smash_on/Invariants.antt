use Rattle.std.proofs.Common.{◌≡◌, drop}
use Rattle.hera_meaning.specs.Commits.{smashed}
use Rattle.smash_merge.proofs.smash_on.Given as goal

abbrev pub invariant-loop-delta : goal.invariant-loop-delta
invariant-loop-delta l = smashed l.all (drop l.delta-index l.rest) ≡ smashed l.fn.first l.rest
