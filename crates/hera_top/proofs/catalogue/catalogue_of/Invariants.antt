use Rattle.std.proofs.Common.{◌≡◌, ◌++◌, drop}
use Rattle.hera_top.proofs.catalogue.catalogue_of.Given as goal

abbrev pub invariant-loop-relation : goal.invariant-loop-relation
invariant-loop-relation l = l.catalogue ++ drop l.relation-index l.relations ≡ l.relations
