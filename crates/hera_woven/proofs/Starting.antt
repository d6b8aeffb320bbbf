-- A weave before its first step.
use Rattle.std.proofs.Common.{◌≡◌, ℕ, ◌≤◌, false, List, [], length, refl, ap, ◌∙◌, arith}
use Rattle.std.specs.Prelude.{All}
use Rattle.std.proofs.KnownBytes.{Appends-nil}
use Rattle.std.proofs.lemmas.List.{take_all}
use Rattle.hera_causes.specs.declared.traits.Output as output
use Rattle.hera_meaning.specs.Commits.{IsCommitOf}
use Rattle.hera_meaning.specs.Hosts.{Hosts}
use Rattle.hera_machine.specs.Over.{state_over}
use Rattle.hera_sessions.specs.Sessions.{Task}
use Rattle.hera_sessions.specs.Weaving.{AreTasks}
use Rattle.hera_volume.specs.declared.outside.Outside as files
use Rattle.hera_volume.proofs.Moments.{leaves-none}
use Rattle.hera_store.specs.Standing.{Standing, StandsFor as store_stands, database_of}
use Rattle.hera_outcome.specs.declared.answer.Stop.TheVariants.{Memory}
use Rattle.hera_outcome.specs.Passages.{passage}
use Rattle.hera_weave.specs.Looms.{Loom, StandsFor}
use Rattle.hera_weave.specs.Rotas.{Turn, IsDue}
use Rattle.hera_woven.specs.declared.keeping.Folder.{Folder}
use Rattle.hera_woven.specs.Going.{Plan, plan_over, IsBehind, IsCarriedOut, IsHeldUp}

module _ (hosts : Hosts) (tasks : List Task) (order : ℕ) (f : Folder) where
  pub behind_start : (w : Loom) (r : Turn) → AreTasks hosts f.store.base.catalogue tasks → f.store.closed ≡ false → state_over f.store.base.state f.commits.items ≡ (database_of f.store).state → All (IsCommitOf f.store.base.catalogue) f.commits.items
      → StandsFor tasks hosts f.store.base.state f.commits.items [] w → w.start ≡ length f.commits.items → w.failed ≡ false → IsDue tasks (database_of f.store).state hosts [] r → r.order ≡ order → IsBehind hosts (plan_over tasks order f.store) [] w r f
  behind_start w r are opens does proper stands start works due own =
      let within : length f.commits.items ≤ w.start = omega (arith, start) in
      record {
        are = are;
        base = refl;
        unclosed = opens;
        works = works;
        weaves = stands;
        begins = ap (state_over f.store.base.state) (take_all w.start f.commits.items within) ∙ does;
        proper = proper;
        due = due;
        order = own;
        stored = refl;
        fit = refl;
        ends = refl;
      }

module _ (hosts : Hosts) (plan : Plan) {D : Type 0} (q : output.Ghosts D) (k : files.Ghosts D) (a : D) where
  -- nothing was done
  pub carried_none : (s : Standing) → (k.told → store_stands (k.disk a) s) → IsCarriedOut hosts plan [] s (passage q k a a)
  carried_none s stands = record {
    said = Appends-nil (q.emitted a);
    stands = stands;
    moments = λ t. leaves-none k.moment k.left_since a _;
    output = refl;
    device = refl;
  }

  -- there was no memory before it
  pub held_none : (s : Standing) → IsHeldUp hosts plan s (passage q k a a) Memory
  held_none s = record {
    schedule = [];
    events = [];
    next = [];
    ordered = tt;
    reaches = refl;
    fit = refl;
    part = (0, Appends-nil (q.emitted a));
    moments = λ t. leaves-none k.moment k.left_since a _;
    faults = (refl, refl);
    full = λ is. cc (is);
  }
