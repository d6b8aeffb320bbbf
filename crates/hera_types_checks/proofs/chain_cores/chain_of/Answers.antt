use Rattle.std.proofs.Common.{◌∙◌, sym, ap}
use Rattle.std.specs.Prelude.{slice_get}
use Rattle.hera_meaning.specs.Plain.{expr_of, hypos_in, links_in}
use Rattle.hera_meaning.specs.Trees.{when, and_all, or_any, chain}
use Rattle.hera_meaning.proofs.PlainLaws.{expr_of-When, expr_of-And, expr_of-Or, expr_of-Chain}
use Rattle.hera_rules.specs.Agrees.{steps_of}
use Rattle.hera_rules.specs.Rules.{chain_by}
use Rattle.hera_types_checks.proofs.Joints.{chain_named, chain_other}
use Rattle.hera_types_checks.proofs.chain_cores.chain_of.Goals as goal

pub returns-in_ok-hypos-in-When : goal.returns-in_ok-hypos-in-When
returns-in_ok-hypos-in-When c =
    expr_of-When _ _ ∙ ap (λ e. when (expr_of e) (hypos_in c.in_ok-hypos-in-When.hypos.items)) c.in_ok-start-in-When.ensures
    ∙ ap (λ h. when (expr_of c.args.first) h) c.in_ok-hypos-in-When.ensures
    ∙ ap (λ j. chain_by j (expr_of c.args.first) (steps_of c.args.items.items)) (sym c.in-When.is)
    ∙ sym (chain_named (expr_of c.args.first) c.args.items.items c.in-Some.item.now (ap (λ s. slice_get s 0) (sym c.deref.ensures.value) ∙ sym c.in-Some.ensures.value))

pub returns-in_ok-args_of_items-in-And : goal.returns-in_ok-args_of_items-in-And
returns-in_ok-args_of_items-in-And c =
    expr_of-And _ ∙ ap and_all c.in_ok-args_of_items-in-And.ensures
    ∙ ap (λ j. chain_by j (expr_of c.args.first) (steps_of c.args.items.items)) (sym c.in-And.is)
    ∙ sym (chain_named (expr_of c.args.first) c.args.items.items c.in-Some.item.now (ap (λ s. slice_get s 0) (sym c.deref.ensures.value) ∙ sym c.in-Some.ensures.value))

pub returns-in_ok-args_of_items-in-Or : goal.returns-in_ok-args_of_items-in-Or
returns-in_ok-args_of_items-in-Or c =
    expr_of-Or _ ∙ ap or_any c.in_ok-args_of_items-in-Or.ensures
    ∙ ap (λ j. chain_by j (expr_of c.args.first) (steps_of c.args.items.items)) (sym c.in-Or.is)
    ∙ sym (chain_named (expr_of c.args.first) c.args.items.items c.in-Some.item.now (ap (λ s. slice_get s 0) (sym c.deref.ensures.value) ∙ sym c.in-Some.ensures.value))

pub returns-in_ok-links-in_default : goal.returns-in_ok-links-in_default
returns-in_ok-links-in_default c =
    expr_of-Chain _ _ ∙ ap (λ e. chain (expr_of e) (links_in c.in_ok-links-in_default.links.items)) c.in_ok-start-in_default.ensures
    ∙ ap (λ h. chain (expr_of c.args.first) h) c.in_ok-links-in_default.ensures
    ∙ sym (chain_other c.in-Some.item.now.joint (expr_of c.args.first) (steps_of c.args.items.items) c.in_default.not-When c.in_default.not-And c.in_default.not-Or)
    ∙ sym (chain_named (expr_of c.args.first) c.args.items.items c.in-Some.item.now (ap (λ s. slice_get s 0) (sym c.deref.ensures.value) ∙ sym c.in-Some.ensures.value))
