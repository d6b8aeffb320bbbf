use Rattle.std.proofs.Common.{◌≡◌, ◌∙◌, sym, ap, ◌<◌, ◌∷◌, length, arith}
use Rattle.hera_meaning.specs.declared.trees.Shape.TheVariants.{Delta as delta}
use Rattle.hera_meaning.specs.Plain.{expr_of, links_in}
use Rattle.hera_meaning.specs.Trees.{chain}
use Rattle.hera_meaning.proofs.PlainLaws.{expr_of-Const, expr_of-Chain}
use Rattle.hera_rules.specs.Rules.{typing}
use Rattle.hera_types_checks.proofs.Attributes.{head_rest, no_atom, more_atoms}
use Rattle.hera_types_checks.proofs.tuples.check_atoms.Goals as goal

pub returns-then-len-eq0-clause-typed : goal.returns-then-len-eq0-clause-typed
returns-then-len-eq0-clause-typed c =
    ap (λ e. typing delta e) (expr_of-Const _) ∙ sym (no_atom c.args.at c.args.values.items (sym c.args.values.ok.0 ∙ sym c.len.ensures ∙ c.if-len-eq0.true))

pub returns-clause-typed : goal.returns-clause-typed
returns-clause-typed c =
    let rest = c.remove.new.self in
    let some : 0 < length c.args.values.items = omega (arith, c.args.values.ok.0) in
    let more : 0 < length rest.items = omega (arith, rest.ok.0) in
    let whole : c.args.values.items ≡ c.remove.result ∷ rest.items = head_rest c.args.values.items rest.items c.remove.result some c.remove.ensures.value c.remove.ensures.items in
    ap (λ e. typing delta e) (expr_of-Chain _ _ ∙ ap (λ e. chain (expr_of e) (links_in c.in_ok-links.links.items)) (c.in_ok-start.ensures ∙ c.into_core-first.ensures)
    ∙ ap (λ l. chain (expr_of c.remove.result.core) l) c.in_ok-links.ensures)
    ∙ sym (more_atoms c.args.at c.args.values.items rest.items c.remove.result whole more)
