use Rattle.std.proofs.Common.{◌≡◌, ◌≤◌, List, ℕ, sym, subst, ◌∙◌, arith, length}
use Rattle.hera_meaning.specs.Rows.{IsRow}
use Rattle.hera_meaning.specs.Wider.{widened_row}
use Rattle.hera_meaning.proofs.WiderLaws.{wide_row}
use Rattle.hera_row.proofs.Widened.{blank_more, blanks_end}
use Rattle.hera_row.proofs.widening.widen_row.Goals as goal

pub loop-place-preserved : goal.loop-place-preserved
loop-place-preserved c =
    blank_more c.args.new.now c.loop-place.place c.attr.result.now c.loop-place.bytes.items c.push_blank.new.row.items c.attr.ensures.attr c.in_ok-push_blank.ensures
    ∙ c.loop-place.invariant

pub returns-clause-row : goal.returns-clause-row
returns-clause-row c =
    let past : length c.args.new.now ≤ c.loop-place.place = omega (arith, c.loop-place-test.false, c.len-place-end.ensures.count) in
    c.from_vec.ensures ∙ blanks_end c.args.new.now c.loop-place.place c.loop-place.bytes.items (widened_row c.args.old.now c.args.new.now c.args.row.now) past c.loop-place.invariant

pub returns-clause-valid : goal.returns-clause-valid
returns-clause-valid c =
    let past : length c.args.new.now ≤ c.loop-place.place = omega (arith, c.loop-place-test.false, c.len-place-end.ensures.count) in
    let is : c.loop-place.bytes.items ≡ widened_row c.args.old.now c.args.new.now c.args.row.now =
    blanks_end c.args.new.now c.loop-place.place c.loop-place.bytes.items (widened_row c.args.old.now c.args.new.now c.args.row.now) past c.loop-place.invariant in
    subst (λ (bytes : List ℕ). IsRow c.args.new.now bytes) (sym (c.from_vec.ensures ∙ is)) (wide_row c.args.old.now c.args.new.now c.args.row.now c.requires.prefix c.requires.row)
