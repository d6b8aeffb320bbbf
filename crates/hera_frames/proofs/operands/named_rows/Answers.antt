use Rattle.std.proofs.Common.{◌≡◌, ◌∙◌, ap, subst}
use Rattle.std.specs.Prelude.{IfOk}
use Rattle.hera_sets.proofs.Lists.{filter_past_none}
use Rattle.hera_meaning.specs.Deltas.{rows_at}
use Rattle.hera_meaning.specs.Values.{Value, table}
use Rattle.hera_reads.specs.Branched.{seen_at}
use Rattle.hera_values.specs.Little.{plain_of}
use Rattle.hera_frames.proofs.operands.named_rows.Goals as goal

pub returns : goal.returns
returns c =
    let rows = rows_at (seen_at c.args.stored.now.state c.args.changes.now.layers c.args.tip) c.args.rel.0 in
    subst (λ (v : Value). IfOk c.new.result (λ d. plain_of d ≡ v)) (ap table (c.in_ok-rows.ensures ∙ filter_past_none rows)) c.new.ensures.plain
