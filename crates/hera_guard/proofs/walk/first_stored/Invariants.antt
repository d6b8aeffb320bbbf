use Rattle.std.proofs.Common.{◌≡◌, ◌++◌, drop}
use Rattle.hera_host.specs.Tables.{specs_of}
use Rattle.when_overlay.specs.Changed.{after_all}
use Rattle.when_overlay.specs.Layered.{path}
use Rattle.hera_guard.specs.Guards.{breaks_from, breaks, first}
use Rattle.hera_guard.proofs.walk.first_stored.Given as goal

-- the first break of the relations that are left is that of all
abbrev pub invariant-loop-number : goal.invariant-loop-number
invariant-loop-number g l =
    let rels = l.view.base.now.catalogue in
    let state = after_all l.view.base.now.state (l.view.commits.now ++ path l.view.layers.now.layers l.view.tip) in
    first (breaks_from (specs_of l.hosts.names) l.guards l.number (drop l.number rels) (drop l.number state)) ≡ first (breaks (specs_of l.hosts.names) l.guards rels state)
