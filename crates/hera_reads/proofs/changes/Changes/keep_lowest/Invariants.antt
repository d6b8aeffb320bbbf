use Rattle.std.proofs.Common.{◌≡◌, ◌≤◌, ◌-◌, max, drop}
use Rattle.hera_reads.proofs.changes.Changes.keep_lowest.Given as goal

abbrev pub invariant-loop : goal.invariant-loop
invariant-loop l = record { catalogue : l.self.catalogue ≡ l.initial.self.catalogue; left : l.self.layers ≡ drop (l.counter - l.needed) l.initial.self.layers; tip : l.self.tip ≡ l.initial.self.tip; within : l.counter ≤ max l.needed l.count }
