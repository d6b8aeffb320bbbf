use Rattle.std.proofs.Common.{◌≡◌, subst, ap, ◌∙◌, is_some}
use Rattle.hera_meaning.specs.declared.trees.Stmt.TheVariants.{Commit}
use Rattle.hera_meaning.specs.Plain.{command_of}
use Rattle.hera_meaning.specs.Trees as trees
use Rattle.hera_meaning.proofs.PlainLaws.{command_of-Commit}
use Rattle.hera_rules.specs.Agrees.{Gives}
use Rattle.hera_rules.specs.Commands.{effect_row}
use Rattle.hera_rules.specs.ReadActs.{label_of}
use Rattle.hera_types.proofs.statements.commit.Goals as goal

pub returns : goal.returns
returns c =
    let core : command_of (Commit c.in_ok-copy.copy) ≡ trees.commit (label_of c.args.label.now) = command_of-Commit c.in_ok-copy.copy ∙ ap trees.commit c.in_ok-copy.ensures.label in
    let row : effect_row c.is_some.result c.args.at (command_of (Commit c.in_ok-copy.copy)) ≡ effect_row (is_some c.args.returned.now) c.args.at (trees.commit (label_of c.args.label.now)) =
    ap (λ b. effect_row b c.args.at (command_of (Commit c.in_ok-copy.copy))) c.is_some.ensures ∙ ap (λ k. effect_row (is_some c.args.returned.now) c.args.at k) core in
    subst (λ r. Gives command_of c.check_effect.result r) row c.check_effect.ensures
