use Rattle.std.proofs.Common.{sym, ap, ◌∙◌}
use Rattle.std.specs.List.{list_all}
use Rattle.hera_meaning.specs.Fits.{is_delta_of}
use Rattle.hera_weave.proofs.Sitting.{given_when}
use Rattle.hera_weave.proofs.seat.begin_levels.Goals as goal

pub returns-in_ok-levels-clause-known : goal.returns-in_ok-levels-clause-known
returns-in_ok-levels-clause-known c = λ rels known.
    c.in_ok-levels.ensures.known rels (ap (list_all (is_delta_of rels)) (sym (given_when c.args.prefix.now c.args.own.now c.args.levels.now (sym c.is_empty.ensures ∙ c.if-is_empty.true))) ∙ known)
