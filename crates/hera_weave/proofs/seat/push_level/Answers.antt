use Rattle.hera_weave.proofs.seat.push_level.Goals as goal

pub returns-clause-known : goal.returns-clause-known
returns-clause-known c = λ rels known own. c.push.ensures.known rels (c.in_ok-begin_levels.ensures.known rels known) own
