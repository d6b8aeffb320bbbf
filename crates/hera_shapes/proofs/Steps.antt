-- How trees are read, for the search.
use Rattle.hera_rules.proofs.ReadLaws.{read}

pub ruleset steps = (read)
