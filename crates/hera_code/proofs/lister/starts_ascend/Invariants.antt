use Rattle.std.proofs.Common.{◌↔◌, drop}
use Rattle.hera_code.specs.Listing.{StartsFrom}
use Rattle.hera_code.proofs.lister.starts_ascend.Given as goal

abbrev pub invariant-loop-body : goal.invariant-loop-body
invariant-loop-body l = StartsFrom l.least (drop l.body-index l.bodies) l.end ↔ StartsFrom 0 l.bodies l.end
