use Rattle.machine_trials.proofs.machine.printed.Goals as goal

pub steps-init : goal.steps-init
steps-init g c = record { waits = c.in_ok-machine.ensures.nothing_waits; works = c.in_ok-machine.ensures.works; counted = c.in_ok-counts.ensures _ }
