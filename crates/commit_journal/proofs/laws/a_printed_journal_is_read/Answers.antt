use Rattle.commit_journal.proofs.Once.{printed_whole, printed_once}
use Rattle.commit_journal.proofs.laws.a_printed_journal_is_read.Goals as goal

pub returns-clause-whole : goal.returns-clause-whole
returns-clause-whole c = λ rels bytes first records gate rest at few valid shut printed. printed_whole rels few bytes first records gate rest valid shut printed at

pub returns-clause-once : goal.returns-clause-once
returns-clause-once c = λ rels bytes first records gate rest deltas end few valid shut printed. printed_once rels few bytes first records gate rest valid shut printed deltas end
