use Rattle.std.proofs.Common.{◌≡◌, ◌++◌, length, drop, ◌≤◌}
use Rattle.hera_meaning.specs.Plain.{exprs_in, links_in, hypos_in}
use Rattle.hera_code.specs.Scheme.{exprs_code, links_code, hypos_code, some_code}
use Rattle.hera_codegen.specs.Holes.{every_front, every_holes, some_holes}
use Rattle.hera_codegen.proofs.expressions.+expression.Given as goal

abbrev pub invariant-emit_operands-loop-arg : goal.invariant-emit_operands-loop-arg
invariant-emit_operands-loop-arg l =
    (l.code.items ++ exprs_code (exprs_in (drop l.arg-index l.arg-items)) (length l.code.items) ≡ l.fn.code.items ++ exprs_code (exprs_in l.arg-items) (length l.fn.code.items)) × (l.taker ≡ l.fn.taker)

abbrev pub invariant-emit_links-loop-link : goal.invariant-emit_links-loop-link
invariant-emit_links-loop-link l = l.code.items ++ links_code (links_in (drop l.link-index l.link-items)) (length l.code.items) ≡ l.initial.code.items ++ links_code (links_in l.link-items) (length l.initial.code.items)

abbrev pub invariant-emit_every_front-loop-i : goal.invariant-emit_every_front-loop-i
invariant-emit_every_front-loop-i l =
    (l.code.items ++ every_front (exprs_in (drop l.i l.arg-items)) (length l.code.items) 0 ≡ l.fn.code.items ++ every_front (exprs_in l.arg-items) (length l.fn.code.items) 0)
    × (l.holes.items ++ every_holes (exprs_in (drop l.i l.arg-items)) (length l.code.items) ≡ every_holes (exprs_in l.arg-items) (length l.fn.code.items))

abbrev pub invariant-emit_some_front-loop-i : goal.invariant-emit_some_front-loop-i
invariant-emit_some_front-loop-i l =
    (l.code.items ++ some_code (exprs_in (drop l.i l.arg-items)) (length l.code.items) 0 ≡ l.fn.code.items ++ some_code (exprs_in l.arg-items) (length l.fn.code.items) 0)
    × (l.holes.items ++ some_holes (exprs_in (drop l.i l.arg-items)) (length l.code.items) ≡ some_holes (exprs_in l.arg-items) (length l.fn.code.items))

abbrev pub invariant-emit_hypos-loop-i : goal.invariant-emit_hypos-loop-i
invariant-emit_hypos-loop-i l = (l.i ≤ length l.hypos.items) × (l.code.items ≡ l.fn.code.items ++ hypos_code (hypos_in (drop l.i l.hypos.items)) (length l.fn.code.items))

abbrev pub decreases-emit_hypos-loop-i : goal.decreases-emit_hypos-loop-i
decreases-emit_hypos-loop-i l = l.i
