use Rattle.std.proofs.Common.{ap, sym, ◌∙◌, ◌%◌, length, List, ℕ}
use Rattle.std.specs.Prelude.{slice_get}
use Rattle.hera_sessions.specs.Weaving.{woven}
use Rattle.hera_weave.specs.Looms.{state_behind}
use Rattle.hera_weave.proofs.Looming.{open_there}
use Rattle.hera_weave.proofs.Turning.{due_is_open, none_due}
use Rattle.hera_weave.proofs.rota.who_is_due_has_not_closed.Goals as goal

pub returns-clause-there : goal.returns-clause-there
returns-clause-there c = λ tasks hosts base all schedule w r st due i at.
    let stages = (woven tasks (state_behind base all w.start) hosts schedule).stages in
    open_there tasks hosts base all schedule w i st (due_is_open stages (r.number % length r.opens) i (ap (λ (l : List ℕ). slice_get l (r.number % length r.opens)) (sym due.opens) ∙ at))

pub returns-clause-none : goal.returns-clause-none
returns-clause-none c = none_due
