use Rattle.std.proofs.Common.{sym, ap, ◌∙◌}
use Rattle.hera_meaning.specs.Deltas.{Delta, smash_of}
use Rattle.delta_atoms.specs.Kept.{delta_of}
use Rattle.delta_atoms.proofs.Single.{smash_nothing_under}
use Rattle.delta_atoms.proofs.delta.Delta.smash_with.Goals as goal

pub returns-in_ok-self-inside-in-Empty-clause-ok : goal.returns-in_ok-self-inside-in-Empty-clause-ok
returns-in_ok-self-inside-in-Empty-clause-ok c =
    c.drop-in-Empty.view_is ∙ c.in_ok-self-inside-in-Empty.ensures
    ∙ sym (ap (λ (d : Delta). smash_of d c.args.second.now) (sym c.self.view_is ∙ ap delta_of c.in-Empty.is) ∙ smash_nothing_under c.args.second.now c.is_fail.ensures.valid)
