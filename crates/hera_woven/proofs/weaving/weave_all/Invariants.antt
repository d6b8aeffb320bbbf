use Rattle.std.proofs.Common.{ℕ, List, []}
use Rattle.hera_host.specs.Tables.{specs_of}
use Rattle.hera_outcome.specs.Passages.{passage}
use Rattle.hera_weave.specs.Looms.{seats_left}
use Rattle.hera_woven.specs.Going.{Plan, IsBehind, IsCarriedOut}
use Rattle.hera_woven.proofs.weaving.weave_all.Given as goal

abbrev pub invariant-steps : goal.invariant-steps
invariant-steps g l =
    (plan : Plan) → IsBehind (specs_of l.hosts.names) plan [] l.initial.weave l.initial.rota l.initial.folder
    → (schedule : List ℕ) × IsBehind (specs_of l.hosts.names) plan schedule l.weave l.rota l.folder × IsCarriedOut (specs_of l.hosts.names) plan schedule l.folder.store (passage g.W.Output g.W.Outside l.initial.outside l.outside)

abbrev pub decreases-steps : goal.decreases-steps
decreases-steps g l = seats_left l.weave.seats
