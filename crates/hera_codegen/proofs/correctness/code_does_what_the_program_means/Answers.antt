use Rattle.hera_codegen.proofs.Whole.{ends_so, only_so, stores_so, prefixes_so}
use Rattle.hera_codegen.proofs.correctness.code_does_what_the_program_means.Goals as goal

pub returns-clause-ends : goal.returns-clause-ends
returns-clause-ends c = ends_so

pub returns-clause-only : goal.returns-clause-only
returns-clause-only c = only_so

pub returns-clause-stores : goal.returns-clause-stores
returns-clause-stores c = stores_so

pub returns-clause-prefixes : goal.returns-clause-prefixes
returns-clause-prefixes c = prefixes_so
