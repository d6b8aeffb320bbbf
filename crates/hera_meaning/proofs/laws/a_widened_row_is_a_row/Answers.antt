use Rattle.std.proofs.Common.{sym}
use Rattle.hera_meaning.specs.Wider.{added}
use Rattle.hera_meaning.proofs.WiderLaws.{wide_row, row_of-append}
use Rattle.hera_meaning.proofs.laws.a_widened_row_is_a_row.Goals as goal

pub returns-clause-row : goal.returns-clause-row
returns-clause-row c = wide_row

pub returns-clause-tuple : goal.returns-clause-tuple
returns-clause-tuple c = λ old new tuple. sym (row_of-append tuple (added old new))
