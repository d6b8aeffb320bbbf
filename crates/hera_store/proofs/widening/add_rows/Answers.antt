use Rattle.std.proofs.Common.{◌≡◌, ◌≤◌, length, List, sym, subst, arith}
use Rattle.std.specs.Prelude.{OnOk, IfErr}
use Rattle.hera_sets.specs.Rows.{Row}
use Rattle.rel_format.specs.declared.version.TheConstants.{PAGE_TWO}
use Rattle.rel_format.specs.Pages.{paged}
use Rattle.half_writer.specs.Written.{IsFirstFull, with_rel, need_of}
use Rattle.hera_store.proofs.Widenings.{none_added}
use Rattle.hera_store.proofs.widening.add_rows.Goals as goal

pub returns-then-len-clause-add : goal.returns-then-len-clause-add
returns-then-len-clause-add g c =
    let rows = g.S.Sorted.rows c.args.rows.now in
    let no_more : length c.args.new.now ≤ length c.args.old.now = omega (arith, c.if-len.true, c.len.ensures.count, c.len-2.ensures.count) in
    subst (λ (rs : List Row). OnOk c.add.result (c.add.new.self ≡ with_rel PAGE_TWO c.args.writer.now rs)) (sym (none_added c.args.old.now c.args.new.now rows no_more)) c.add.ensures.add

pub returns-then-len-clause-full : goal.returns-then-len-clause-full
returns-then-len-clause-full g c =
    let rows = g.S.Sorted.rows c.args.rows.now in
    let no_more : length c.args.new.now ≤ length c.args.old.now = omega (arith, c.if-len.true, c.len.ensures.count, c.len-2.ensures.count) in
    subst (λ (rs : List Row). IfErr c.add.result (IsFirstFull PAGE_TWO (need_of c.args.writer.now) (length (paged PAGE_TWO rs)) c.args.writer.now.limit)) (sym (none_added c.args.old.now c.args.new.now rows no_more)) c.add.ensures.full
