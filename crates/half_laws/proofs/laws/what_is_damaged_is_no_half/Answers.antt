use Rattle.half_laws.proofs.Halves.{damaged_is_none_of, damaged_at_is_none}
use Rattle.half_laws.proofs.laws.what_is_damaged_is_no_half.Goals as goal

pub returns-clause-pages : goal.returns-clause-pages
returns-clause-pages c = λ bytes rels state at damaged h. damaged_at_is_none bytes rels state at damaged h

pub returns-clause-whole : goal.returns-clause-whole
returns-clause-whole c = λ bytes rels state at damage h. damaged_is_none_of bytes rels state at damage h
