use Rattle.commit_journal.proofs.Wholes.{pages_damaged, journal_damaged}
use Rattle.commit_journal.proofs.laws.damage_ends_the_longest_good_prefix.Goals as goal

pub returns-clause-pages : goal.returns-clause-pages
returns-clause-pages c = λ f bytes at stops. pages_damaged f bytes at stops

pub returns-clause-journal : goal.returns-clause-journal
returns-clause-journal c = λ f bytes rels state first at pages stops. journal_damaged f rels bytes first at pages.ends stops
