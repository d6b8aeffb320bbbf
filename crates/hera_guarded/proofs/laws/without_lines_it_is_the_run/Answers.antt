use Rattle.hera_outcome.specs.Passages.{start}
use Rattle.hera_guarded.proofs.Lineless.{as_run, as_guarded}
use Rattle.hera_guarded.proofs.laws.without_lines_it_is_the_run.Goals as goal

pub returns-clause-run : goal.returns-clause-run
returns-clause-run g c = λ hosts turns p first outcome comes. as_run c.no_guards_refuse_nothing.ensures.run hosts turns p (start g.W.Outside first) outcome comes

pub returns-clause-guarded : goal.returns-clause-guarded
returns-clause-guarded g c = λ hosts turns p first outcome comes. as_guarded c.no_guards_refuse_nothing.ensures.run hosts turns p (start g.W.Outside first) outcome comes
