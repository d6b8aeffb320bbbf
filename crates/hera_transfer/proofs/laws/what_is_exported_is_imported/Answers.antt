use Rattle.hera_transfer.proofs.Returning.{comes_back_good, comes_back, comes_back_alone}
use Rattle.hera_transfer.proofs.laws.what_is_exported_is_imported.Goals as goal

pub returns-clause-good : goal.returns-clause-good
returns-clause-good c = λ from into name rel number known valid named also same. comes_back_good from into name rel number known valid named also same c.what_is_written_is_read_back.ensures.good

pub returns-clause-rows : goal.returns-clause-rows
returns-clause-rows c = λ from into name rel number known valid named also same. comes_back from into name rel number known valid named also same c.what_is_written_is_read_back.ensures.rows

pub returns-clause-alone : goal.returns-clause-alone
returns-clause-alone c = λ from into name rel number known valid named also same empty lt. comes_back_alone from into name rel number known valid named also same c.what_is_written_is_read_back.ensures.into_empty empty lt
