use Rattle.std.proofs.Common.{[]}
use Rattle.hera_meaning.specs.Run.{run_of}
use Rattle.hera_host.specs.Tables.{specs_of}
use Rattle.hera_guard.specs.Guarded.{refusal_of}
use Rattle.hera_guard.proofs.Quiet.{no_refusal, same_report}
use Rattle.hera_guard.proofs.laws.no_guards_refuse_nothing.Goals as goal

pub returns-clause-state : goal.returns-clause-state
returns-clause-state c = no_refusal

pub returns-clause-run : goal.returns-clause-run
returns-clause-run c = λ p s hosts n. same_report (refusal_of hosts [] p.relations) (no_refusal hosts p.relations) s (run_of p s (specs_of hosts) n)
