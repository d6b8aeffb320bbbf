use Rattle.std.proofs.Common.{sym, ap, ◌∙◌}
use Rattle.hera_meaning.specs.Deltas.{Delta, smash_of}
use Rattle.delta_atoms.specs.Kept.{delta_of}
use Rattle.delta_atoms.proofs.Single.{smash_nothing_over}
use Rattle.delta_atoms.proofs.delta.Delta.smash_under.Goals as goal

pub returns-in_ok-self-inside-in-Empty-clause-ok : goal.returns-in_ok-self-inside-in-Empty-clause-ok
returns-in_ok-self-inside-in-Empty-clause-ok c =
    c.drop.view_is ∙ c.in_ok-self-inside-in-Empty.ensures
    ∙ sym (ap (λ (d : Delta). smash_of c.args.first.now d) (sym c.self.view_is ∙ ap delta_of c.in-Empty.is) ∙ smash_nothing_over c.args.first.now c.is_fail.ensures.valid)
