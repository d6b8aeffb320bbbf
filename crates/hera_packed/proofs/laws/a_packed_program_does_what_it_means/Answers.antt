use Rattle.std.proofs.Common.{◌≡◌}
use Rattle.hera_meaning.specs.Run.{run_of}
use Rattle.rel_pages.specs.Stored.{empty_state}
use Rattle.hera_outcome.specs.Outcomes.{ran}
use Rattle.hera_packed.proofs.Outcomes_one.{comes}
use Rattle.hera_packed.proofs.laws.a_packed_program_does_what_it_means.Goals as goal

pub returns-clause-only : goal.returns-clause-only
returns-clause-only c = λ p hosts turns bytes outcome sound pack did.
    c.a_file_comes_to_one_outcome.ensures hosts turns bytes outcome (ran (run_of p (empty_state p.relations) hosts turns)) did
    (comes (λ q h n is state. c.code_does_what_the_program_means.ensures.ends q h (empty_state q.relations) n is state) p hosts turns bytes sound pack)

pub returns-clause-comes : goal.returns-clause-comes
returns-clause-comes c = λ p hosts turns bytes sound pack.
    comes (λ q h n is state. c.code_does_what_the_program_means.ensures.ends q h (empty_state q.relations) n is state) p hosts turns bytes sound pack
