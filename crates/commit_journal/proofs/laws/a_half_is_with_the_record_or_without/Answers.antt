use Rattle.commit_journal.proofs.Halves.{half_either}
use Rattle.commit_journal.proofs.laws.a_half_is_with_the_record_or_without.Goals as goal

pub returns : goal.returns
returns c = λ f old new rels state end xs half valid fits either. half_either f old new rels state end xs half valid either fits
