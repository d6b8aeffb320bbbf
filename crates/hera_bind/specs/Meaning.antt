-- What a script means.
use Rattle.std.specs.Prelude.{◌≡◌, ℕ, List}
use Rattle.hera_meaning.specs.declared.schemas.RelDecl.{RelDecl}
use Rattle.hera_meaning.specs.Deltas.{State}
use Rattle.hera_meaning.specs.Trees.{Program_tree}
use Rattle.hera_meaning.specs.Run.{Report, run_of}
use Rattle.hera_host.specs.Tables.{Host, specs_of}
use Rattle.hera_rules.specs.Accepted.{Accepted}
use Rattle.hera_rules.specs.Bound.{bound}
use Rattle.hera_bind.specs.Having.{AllHas}

-- the script is accepted, the catalogue has its relations, and from this state, with its relations bound to the
-- catalogue's, with these hosts and with n turns, it means this
pub record Means (bytes : List ℕ) (catalogue : List RelDecl) (s : State) (hosts : List Host) (n : ℕ) (report : Report) : Type 0 where
  pub program : Program_tree
  pub accepted : Accepted bytes hosts program
  pub binds : AllHas catalogue program.relations
  pub runs : run_of (bound program catalogue) s (specs_of hosts) n ≡ report
