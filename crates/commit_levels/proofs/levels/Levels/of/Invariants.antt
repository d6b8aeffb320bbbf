use Rattle.std.proofs.Common.{◌≡◌, true, List, take}
use Rattle.std.specs.List.{list_all}
use Rattle.hera_meaning.specs.declared.schemas.RelDecl.{RelDecl}
use Rattle.hera_meaning.specs.Deltas.{State}
use Rattle.hera_meaning.specs.Fits.{is_delta_of}
use Rattle.when_overlay.specs.Changed.{after_all}
use Rattle.commit_levels.proofs.levels.Levels.of.Given as goal

abbrev pub invariant-loop-delta : goal.invariant-loop-delta
invariant-loop-delta l = record {
  does : (s : State) → after_all s l.levels ≡ after_all s (take l.delta-index l.commits);
  known : (rels : List RelDecl) → list_all (is_delta_of rels) l.commits ≡ true → list_all (is_delta_of rels) l.levels ≡ true;
}
