use Rattle.std.proofs.Common.{IfSome, subst}
use Rattle.join_exec.specs.Gaps.{IsGap}
use Rattle.join_exec.proofs.GapLemmas.{over_first}
use Rattle.join_exec.proofs.beside.first_from.Goals as goal

pub returns-in-Some-clause-first : goal.returns-in-Some-clause-first
returns-in-Some-clause-first g c =
    let rows = g.B.Sorted.rows c.args.b.now in
    let known : IsGap rows c.in-Some.known = subst (λ gap. IfSome gap (IsGap rows)) c.in-Some.is c.requires.gap in
    over_first rows c.in-Some.known c.args.front.now known c.if-is_over.ensures

pub returns-in-Some-clause-ordered : goal.returns-in-Some-clause-ordered
returns-in-Some-clause-ordered g c =
    let rows = g.B.Sorted.rows c.args.b.now in
    let known : IsGap rows c.in-Some.known = subst (λ gap. IfSome gap (IsGap rows)) c.in-Some.is c.requires.gap in
    known.ordered
