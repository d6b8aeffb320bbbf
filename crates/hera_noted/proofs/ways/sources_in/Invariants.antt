-- the ways of the instructions so far
use Rattle.std.proofs.Common.{◌≤◌}
use Rattle.hera_noted.specs.Ways.{HaveSources}
use Rattle.hera_noted.proofs.ways.sources_in.Given as goal

abbrev pub invariant-loop-at : goal.invariant-loop-at
invariant-loop-at l = (l.body.start ≤ l.at) × HaveSources l.instrs l.body.start l.body.end l.at l.all.items
