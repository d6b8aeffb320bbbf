use Rattle.hera_rules.proofs.Decides.{one_typing, never_both, one_fault}
use Rattle.hera_rules.proofs.Decided.{always_one}
use Rattle.hera_rules.proofs.DecidedScripts.{one_program, never_accepted_and_refused, one_first_fault, accepted_or_refused}
use Rattle.hera_rules.proofs.laws.typing_is_exact.Goals as goal

pub returns-clause-phrases : goal.returns-clause-phrases
returns-clause-phrases c = record {
  one_typing = λ g ls n p v w e e'. one_typing e e';
  one_fault = λ g ls n p f f' d d'. one_fault d d';
  never_both = λ g ls n p v f e d. never_both e d;
  always_one = always_one;
}

pub returns-clause-scripts : goal.returns-clause-scripts
returns-clause-scripts c = record {
  one_program = λ hosts s p q e e'. one_program e e';
  one_fault = λ hosts s f f' d d'. one_first_fault d d';
  never_both = λ hosts s p f e d. never_accepted_and_refused e d;
  always_one = accepted_or_refused;
}
