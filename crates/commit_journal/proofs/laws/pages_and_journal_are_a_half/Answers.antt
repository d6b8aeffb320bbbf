use Rattle.commit_journal.proofs.Halves.{half_read}
use Rattle.commit_journal.proofs.laws.pages_and_journal_are_a_half.Goals as goal

pub returns : goal.returns
returns c = λ f bytes rels state first deltas end pages journal. half_read f bytes rels state first deltas end pages journal
