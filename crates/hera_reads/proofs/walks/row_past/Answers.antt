use Rattle.std.proofs.Common.{[], ◌≡◌, ◌∷◌, List, IsSomeAnd, ap, sym, subst, Some, arith}
use Rattle.std.specs.Prelude.{IfOk, MatchBool}
use Rattle.std.specs.List.{filter}
use Rattle.hera_sets.specs.Rows.{Row, is_past}
use Rattle.hera_reads.specs.Branched.{pending_of, under, seen_at}
use Rattle.hera_reads.specs.Walking.{onward}
use Rattle.hera_reads.proofs.Naming.{rows_got, rows_none, read-length}
use Rattle.hera_reads.proofs.walks.row_past.Goals as goal

pub returns-then-from-len : goal.returns-then-from-len
returns-then-from-len c =
    let t = seen_at c.args.stored.now.state c.args.changes.now.layers c.args.tip in
    let long = read-length c.args.stored.now.state [] (pending_of c.args.changes.now.layers) (under c.args.changes.now.layers c.args.tip) in
    ap (filter (is_past c.args.ahead.now.passed)) (rows_none t c.args.rel.0 (omega (arith, long, c.len.ensures.relations, c.len.ensures.count, c.from.ensures, c.if-from-len.true)))

pub returns : goal.returns
returns c =
    let t = seen_at c.args.stored.now.state c.args.changes.now.layers c.args.tip in
    subst (λ (rows : List Row). IfOk c.read.result (λ found. MatchBool found (IsSomeAnd c.read.new.self.passed (λ x. filter (is_past c.args.ahead.now.passed) rows ≡ x ∷ onward (Some x) c.read.new.self.left rows)) (filter (is_past c.args.ahead.now.passed) rows ≡ []))) (sym (rows_got t c.args.rel.0 c.rel-rows.result c.rel-rows.ensures)) c.read.ensures
