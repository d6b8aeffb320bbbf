use Rattle.hera_row.proofs.Widened.{rows_found, no_rows_found, kept_found, none_kept}
use Rattle.hera_row.proofs.widening.a_widened_relation_is_found_by_number.Goals as goal

pub returns-clause-there : goal.returns-clause-there
returns-clause-there c = rows_found

pub returns-clause-not_there : goal.returns-clause-not_there
returns-clause-not_there c = no_rows_found

pub returns-clause-kept : goal.returns-clause-kept
returns-clause-kept c = kept_found

pub returns-clause-not_kept : goal.returns-clause-not_kept
returns-clause-not_kept c = none_kept
