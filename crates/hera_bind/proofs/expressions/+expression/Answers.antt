use Rattle.std.proofs.Common.{◌≡◌, ◌∙◌, ap, arith, get_or, length-set, get_or-set_other}
use Rattle.hera_meaning.specs.declared.trees.Link.{Link}
use Rattle.hera_meaning.specs.Plain.{expr_of}
use Rattle.hera_rules.specs.Bound.{bound_op, bound_expr}
use Rattle.hera_bind.proofs.Loops.{LinkIsBound, one_changed, exprs_bound, links_bound, hypos_bound}
use Rattle.hera_bind.proofs.expressions.+expression.Goals as goal

pub bind_exprs-returns : goal.bind_exprs-returns
bind_exprs-returns t c =
    exprs_bound c.args.own.now c.args.catalogue.now c.args.args.now.items c.loop-i.args.items c.loop-i.invariant.1.many
    (λ k d l. c.loop-i.invariant.1.before k d (omega (arith, l, c.loop-i-test.false, c.len-i-end.ensures, c.args.args.now.ok.0, c.loop-i.invariant.1.many)))

pub bind_links-loop-i-preserved : goal.bind_links-loop-i-preserved
bind_links-loop-i-preserved t c =
    let old = c.args.links.now.items in
    let x = c.index_mut-link.result.now in
    let w : x ≡ get_or old c.loop-i.i x = c.index_mut-link.ensures.value ∙ c.loop-i.invariant.1.later c.loop-i.i x (omega arith) in (
      (
        length-set c.loop-i.links.items c.loop-i.i _ ∙ c.loop-i.invariant.0.0,
        λ k d l. get_or-set_other c.loop-i.links.items c.loop-i.i k _ d (λ q. absurd (omega (arith, q, l))) ∙ c.loop-i.invariant.0.1 k d (omega (arith, l)),
      ),
      one_changed (LinkIsBound c.args.own.now c.args.catalogue.now) old c.loop-i.links.items c.loop-i.i _ x c.loop-i.invariant.1
          (omega (arith, c.loop-i-test.true, c.len-i-end.ensures, c.args.links.now.ok.0, c.loop-i.invariant.1.many))
          record {
            op = c.bind_op.ensures ∙ ap (λ (l : Link). bound_op c.args.own.now c.args.catalogue.now l.op) w;
            arg = c.bind_expr.ensures ∙ ap (λ (l : Link). bound_expr c.args.own.now c.args.catalogue.now (expr_of l.arg)) w;
            at = ap (λ (l : Link). l.at) w;
          },
    )

pub bind_links-returns : goal.bind_links-returns
bind_links-returns t c =
    links_bound c.args.own.now c.args.catalogue.now c.args.links.now.items c.loop-i.links.items c.loop-i.invariant.1.many
    (λ k d l. c.loop-i.invariant.1.before k d (omega (arith, l, c.loop-i-test.false, c.len-i-end.ensures, c.args.links.now.ok.0, c.loop-i.invariant.1.many)))

pub bind_hypos-returns : goal.bind_hypos-returns
bind_hypos-returns t c =
    hypos_bound c.args.own.now c.args.catalogue.now c.args.hypos.now.items c.loop-i.hypos.items c.loop-i.invariant.1.many
    (λ k d l. c.loop-i.invariant.1.before k d (omega (arith, l, c.loop-i-test.false, c.len-i-end.ensures, c.args.hypos.now.ok.0, c.loop-i.invariant.1.many)))
