use Rattle.std.proofs.Common.{◌≡◌, List}
use Rattle.hera_meaning.specs.declared.schemas.RelDecl.{RelDecl}
use Rattle.hera_meaning.specs.Hosts.{Hosts}
use Rattle.hera_machine.specs.Standing.{GoesOn}
use Rattle.hera_steps.specs.Working.{machine_at}
use Rattle.hera_machine.proofs.many.run_quick.Given as goal

abbrev pub invariant-loop : goal.invariant-loop
invariant-loop l = record {
  goes : (rels : List RelDecl) → (hosts : Hosts) → let s = l.stored.state in GoesOn 0 l.code rels hosts s (machine_at s l.initial.work) (machine_at s l.work);
  layers : l.work.layers ≡ l.initial.work.layers;
  relations : l.work.relations ≡ l.initial.work.relations;
}
