use Rattle.hera_bind.proofs.Loops.{ChangedUpTo, CoreIsBound, LinkIsBound, HypoIsBound}
use Rattle.hera_bind.proofs.expressions.+expression.Given as goal

abbrev pub invariant-bind_exprs-loop-i : goal.invariant-bind_exprs-loop-i
invariant-bind_exprs-loop-i l = goal.unvisited-bind_exprs-loop-i l × ChangedUpTo (CoreIsBound l.own l.catalogue) l.initial.args.items l.args.items l.i

abbrev pub invariant-bind_hypos-loop-i : goal.invariant-bind_hypos-loop-i
invariant-bind_hypos-loop-i l = goal.unvisited-bind_hypos-loop-i l × ChangedUpTo (HypoIsBound l.own l.catalogue) l.initial.hypos.items l.hypos.items l.i

abbrev pub invariant-bind_links-loop-i : goal.invariant-bind_links-loop-i
invariant-bind_links-loop-i l = goal.unvisited-bind_links-loop-i l × ChangedUpTo (LinkIsBound l.own l.catalogue) l.initial.links.items l.links.items l.i
