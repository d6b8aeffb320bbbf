use Rattle.std.proofs.Common.{◌≤◌, ◌∙◌, sym, ap, subst, List, ℕ, length, arith}
use Rattle.hera_meaning.specs.Printed.{number_text}
use Rattle.hera_syntax.specs.Tokens.{script_limit}
use Rattle.hera_top.specs.Drill.{drill_start, drill_changes, drill_prints, drill_end, drill_text}
use Rattle.hera_top.proofs.Drilled.{put_together, drill_short}
use Rattle.hera_top.proofs.drill.drill_text.Goals as goal

pub returns-clause-text : goal.returns-clause-text
returns-clause-text c =
    put_together _ _ _ _ _ _ _ _ drill_start drill_changes drill_prints drill_end (number_text c.from-n.result)
    c.new-text.ensures.items c.in_ok-put.ensures c.in_ok-put_number.ensures c.in_ok-put-2.ensures c.in_ok-put_number-2.ensures c.in_ok-put-3.ensures c.in_ok-put_number-3.ensures c.in_ok-put-4.ensures
    ∙ ap drill_text c.from-n.ensures

pub returns-clause-short : goal.returns-clause-short
returns-clause-short c =
    let is =
    put_together _ _ _ _ _ _ _ _ drill_start drill_changes drill_prints drill_end (number_text c.from-n.result)
    c.new-text.ensures.items c.in_ok-put.ensures c.in_ok-put_number.ensures c.in_ok-put-2.ensures c.in_ok-put_number-2.ensures c.in_ok-put-3.ensures c.in_ok-put_number-3.ensures c.in_ok-put-4.ensures
    ∙ ap drill_text c.from-n.ensures in
    subst (λ (l : List ℕ). length l ≤ script_limit) (sym is) (drill_short c.args.count (omega arith))
