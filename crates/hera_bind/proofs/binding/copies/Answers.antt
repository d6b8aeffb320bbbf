use Rattle.std.proofs.Common.{sym, ap, ◌∙◌, ◌++◌, [], ◌∷◌, Some}
use Rattle.hera_meaning.specs.declared.schemas.RelDecl.{RelDecl}
use Rattle.hera_bind.proofs.Found.{take_one}
use Rattle.hera_bind.proofs.binding.copies.Goals as goal

pub loop-i-preserved : goal.loop-i-preserved
loop-i-preserved c =
    c.in_ok-push.ensures.items ∙ ap (λ ds. ds ++ c.in_ok-copy.field-0 ∷ []) c.loop-i.invariant
    ∙ sym (take_one c.args.catalogue.now c.loop-i.i c.in_ok-copy.field-0 (c.decl.ensures.decl ∙ ap (λ (d : RelDecl). Some d) (sym c.in_ok-copy.ensures)))
