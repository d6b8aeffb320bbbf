use Rattle.std.proofs.Common.{◌+◌, [], ◌∷◌, ◌++◌, ◌<◌, ◌≤◌, length, arith, ap, ◌∙◌}
use Rattle.std.proofs.lemmas.Result.{on_ok_weaker}
use Rattle.hera_meaning.specs.Plain.{exprs_in}
use Rattle.hera_code.specs.declared.instrs.Instr.TheVariants.{Prim}
use Rattle.hera_codegen.proofs.Emitted.{exprs_go, links_go, every_more, every_more_holes, every_end, every_end_holes, every_closed, some_more, some_more_holes, some_last, some_last_holes, some_closed, operands_closed, hypos_go}
use Rattle.hera_codegen.proofs.Cases.{chain_case, when_case, select_case, map_case}
use Rattle.hera_codegen.proofs.expressions.+expression.Goals as goal
use Rattle.hera_codegen.proofs.expressions.+expression.Goals.{emit_every_front-then-i-len+in_ok-note_unless, emit_every_front-else-i-len, emit_some_front-then-i-len+in_ok-put_decision+in_ok-open_jump, emit_some_front-else-i-len}

pub emit_operands-loop-arg-preserved : goal.emit_operands-loop-arg-preserved
emit_operands-loop-arg-preserved t c =
    (exprs_go _ _ _ _ _ _ c.loop-arg-test.true c.arg-item.is c.in_ok-emit_expr.ensures c.loop-arg.invariant.0, c.loop-arg.invariant.1)

pub emit_operands-returns : goal.emit_operands-returns
emit_operands-returns t c =
    on_ok_weaker c.put.result (λ h. operands_closed _ _ _ _ _ _ _ _ c.loop-arg-test.false c.loop-arg.invariant.0 c.deref-arg-items.ensures.value c.loop-arg.invariant.1 h) c.put.ensures

pub emit_links-loop-link-preserved : goal.emit_links-loop-link-preserved
emit_links-loop-link-preserved t c =
    links_go _ _ c.link-item.result _ _ _ _ c.loop-link-test.true c.link-item.is c.in_ok-emit_expr.ensures
    (c.in_ok-put.ensures ∙ ap (λ o. c.emit_expr.new.code.items ++ Prim o c.link-item.result.at ∷ []) c.in_ok-copy.ensures) c.loop-link.invariant

pub emit_hypos-loop-i-preserved : goal.emit_hypos-loop-i-preserved
emit_hypos-loop-i-preserved t c = (
  omega (arith, c.loop-i.invariant.0),
  hypos_go _ _ c.index.result.now c.index-in-loop-i.result.now _ _ _ _ c.loop-i-test.true c.loop-i.invariant.0 c.index.ensures c.index-in-loop-i.ensures c.loop-i.invariant.1 c.in_ok-emit_expr.ensures c.in_ok-put.ensures,
)

pub emit_every-returns : goal.emit_every-returns
emit_every-returns t c =
    on_ok_weaker c.close_every.result
    (λ h. every_closed c.args.args.now.items _ _ _ _ (grind (arith, c.if-is_empty.false, c.is_empty.ensures, c.args.args.now.ok.0)) c.in_ok-holes.ensures.code (c.deref.ensures.value ∙ c.in_ok-holes.ensures.holes) h) c.close_every.ensures

pub emit_every_front-loop-i-preserved : goal.emit_every_front-loop-i-preserved
emit_every_front-loop-i-preserved t c =
    elim c.if-i-len.branch [
      | emit_every_front-then-i-len+in_ok-note_unless w ↦
          (let lt : c.loop-i.i + 1 < length c.deref-arg-items.result.now = omega (arith, w.if-i-len.true, c.len.ensures, c.deref-arg-items.ensures.len) in
          rw (w.code-is, w.holes-is) (
            every_more _ _ _ _ _ _ _ lt c.arg-item.is c.in_ok-emit_expr.ensures w.in_ok-note_unless.ensures.code c.loop-i.invariant.0,
            every_more_holes _ _ _ _ _ _ _ _ _ lt c.arg-item.is c.in_ok-emit_expr.ensures w.in_ok-note_unless.ensures.code w.in_ok-note_unless.ensures.holes c.loop-i.invariant.1,
          ))
      | emit_every_front-else-i-len w ↦
          (let past : length c.deref-arg-items.result.now ≤ c.loop-i.i + 1 = omega (arith, w.if-i-len.false, c.len.ensures, c.deref-arg-items.ensures.len) in
          rw (w.code-is, w.holes-is) (
            every_end _ _ _ _ _ _ c.loop-i-test.true past c.arg-item.is c.in_ok-emit_expr.ensures c.loop-i.invariant.0,
            every_end_holes _ _ _ _ _ _ _ c.loop-i-test.true past c.arg-item.is c.loop-i.invariant.1,
          ))
    ]

pub emit_some-returns : goal.emit_some-returns
emit_some-returns t c =
    on_ok_weaker c.close_jumps.result
    (λ h. some_closed (exprs_in c.args.args.now.items) _ _ _ _ c.in_ok-holes.ensures.code (c.deref.ensures.value ∙ c.in_ok-holes.ensures.holes) h) c.close_jumps.ensures

pub emit_some_front-loop-i-preserved : goal.emit_some_front-loop-i-preserved
emit_some_front-loop-i-preserved t c =
    elim c.if-i-len.branch [
      | emit_some_front-then-i-len+in_ok-put_decision+in_ok-open_jump w ↦
          (let lt : c.loop-i.i + 1 < length c.deref-arg-items.result.now = omega (arith, w.if-i-len.true, c.len.ensures, c.deref-arg-items.ensures.len) in
          rw (w.code-is, w.holes-is) (
            some_more _ _ _ _ _ _ _ _ lt c.arg-item.is c.in_ok-emit_expr.ensures w.in_ok-put_decision.ensures w.in_ok-open_jump.ensures.code c.loop-i.invariant.0,
            some_more_holes _ _ _ _ _ _ _ _ _ _ lt c.arg-item.is c.in_ok-emit_expr.ensures w.in_ok-put_decision.ensures w.in_ok-open_jump.ensures.code w.in_ok-open_jump.ensures.holes c.loop-i.invariant.1,
          ))
      | emit_some_front-else-i-len w ↦
          (let past : length c.deref-arg-items.result.now ≤ c.loop-i.i + 1 = omega (arith, w.if-i-len.false, c.len.ensures, c.deref-arg-items.ensures.len) in
          rw (w.code-is, w.holes-is) (
            some_last _ _ _ _ _ _ c.loop-i-test.true past c.arg-item.is c.in_ok-emit_expr.ensures c.loop-i.invariant.0,
            some_last_holes _ _ _ _ _ _ _ c.loop-i-test.true past c.arg-item.is c.loop-i.invariant.1,
          ))
    ]

pub emit_expr-returns-in_ok-emit_expr-in-Chain : goal.emit_expr-returns-in_ok-emit_expr-in-Chain
emit_expr-returns-in_ok-emit_expr-in-Chain t c =
    on_ok_weaker c.emit_links.result
    (λ h. chain_case _ _ c.in-Chain.first c.in-Chain.links _ _ _ c.in-Chain.is c.deref.ensures c.in_ok-emit_expr-in-Chain.ensures h) c.emit_links.ensures

pub emit_expr-returns-in_ok-emit_expr-in-When : goal.emit_expr-returns-in_ok-emit_expr-in-When
emit_expr-returns-in_ok-emit_expr-in-When t c =
    on_ok_weaker c.put_leaves.result
    (λ h. when_case _ _ c.in-When.body c.in-When.hypos _ _ _ _ _ c.in-When.is c.deref-in-When.ensures (c.len.ensures ∙ c.in-When.hypos.ok.0) c.in_ok-emit_hypos-in-When.ensures c.in_ok-emit_expr-in-When.ensures h) c.put_leaves.ensures

pub emit_expr-returns-in_ok-emit_expr-in-Select-2 : goal.emit_expr-returns-in_ok-emit_expr-in-Select-2
emit_expr-returns-in_ok-emit_expr-in-Select-2 t c =
    on_ok_weaker c.close_gathering.result
    (λ h. select_case _ _ _ _ c.in-Select.of c.in-Select.body _ _ _ _ _ _ c.in-Select.is c.deref-in-Select.ensures c.deref-in-Select-2.ensures c.in_ok-emit_expr-in-Select.ensures
    c.in_ok-start-in-Select.ensures.code c.in_ok-start-in-Select.ensures.start c.in_ok-emit_expr-in-Select-2.ensures h) c.close_gathering.ensures

pub emit_expr-returns-in_ok-emit_expr-in-Map-2 : goal.emit_expr-returns-in_ok-emit_expr-in-Map-2
emit_expr-returns-in_ok-emit_expr-in-Map-2 t c =
    on_ok_weaker c.close_gathering-in-Map.result
    (λ h. map_case _ _ _ _ c.in-Map.of c.in-Map.body _ _ _ _ _ _ c.in-Map.is c.deref-in-Map.ensures c.deref-in-Map-2.ensures c.in_ok-emit_expr-in-Map.ensures
    c.in_ok-start-in-Map.ensures.code c.in_ok-start-in-Map.ensures.start c.in_ok-emit_expr-in-Map-2.ensures h) c.close_gathering-in-Map.ensures
