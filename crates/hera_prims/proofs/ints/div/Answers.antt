use Rattle.std.proofs.Common.{◌∙◌, sym, ap, subst, ℤ, rules}
use Rattle.std.specs.Prelude.{int_div}
use Rattle.std.proofs.lemmas.Int.{to_z-of_z}
use mir.Syntax.{w64}
use Rattle.hera_meaning.specs.Values.{int_in, operand}
use Rattle.hera_meaning.specs.Primitives.{divided}
use Rattle.hera_flat.specs.Flats.{flat_in}
use Rattle.hera_prims.specs.Answered.{IsAnswer}
use Rattle.hera_prims.proofs.ints.div.Goals as goal

pub returns : goal.returns
returns c =
    let a : ℤ = int_in (operand c.args.args.now 0) in
    let by = to_z-of_z w64 c.int_at.result (search rules) ∙ c.int_at.ensures in
    subst (λ (b : ℤ). IsAnswer c.divided.result (divided int_div a b)) by
    (c.divided.ensures int_div a (c.given_of.ensures ∙ ap (λ (b : ℤ). flat_in (divided int_div a b)) (sym by)))
