use Rattle.std.proofs.Common.{◌≡◌, ◌↔◌, Bool, true, Some, sym, subst}
use Rattle.std.specs.Prelude.{slice_get}
use Rattle.hera_sessions.specs.Weaving.{closed, woven}
use Rattle.hera_weave.specs.Looms.{state_behind}
use Rattle.hera_weave.proofs.Looming.{closed_there}
use Rattle.hera_weave.proofs.weave.Weave.closed.Goals as goal

pub returns-clause-stage : goal.returns-clause-stage
returns-clause-stage c = λ tasks hosts base all schedule st.
    subst (λ (b : Bool). (b ≡ true) ↔ (slice_get (woven tasks (state_behind base all c.args.self.now.start) hosts schedule).stages c.args.session ≡ Some closed)) (sym c.is_gone.ensures)
    (closed_there tasks hosts base all schedule c.args.self.now c.args.session st)
