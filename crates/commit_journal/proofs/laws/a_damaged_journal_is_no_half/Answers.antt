use Rattle.commit_journal.proofs.Halves.{journal_undamaged}
use Rattle.commit_journal.proofs.laws.a_damaged_journal_is_no_half.Goals as goal

pub returns : goal.returns
returns c = λ f bytes rels state first at stops half size. journal_undamaged f bytes rels state first at half size stops
