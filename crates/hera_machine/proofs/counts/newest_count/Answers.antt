use Rattle.std.proofs.Common.{◌≡◌, Some, ap, sym}
use Rattle.hera_meaning.specs.Deltas.{rows_at}
use Rattle.hera_meaning.specs.declared.trees.Op.TheVariants.{Count}
use Rattle.hera_code.specs.Machine.{as_table}
use Rattle.hera_reads.specs.Branched.{seen_at}
use Rattle.hera_frames.specs.Items.{item_of, value_at}
use Rattle.hera_steps.specs.declared.running.relations.RelationAnswer.TheVariants.{Answer}
use Rattle.hera_steps.proofs.Sights.{the_view}
use Rattle.hera_steps.proofs.Relating.{measured_one}
use Rattle.hera_machine.proofs.counts.newest_count.Goals as goal

pub returns-clause-some : goal.returns-clause-some
returns-clause-some c =
    let s = c.args.stored.now.state in
    let ls = c.work.inside.changes.layers in
    let k = c.in-Some-Named in
    let rows = rows_at (seen_at s ls k.tip) k.rel.0 in
    let is : Some rows ≡ as_table (value_at s ls (item_of k.field-0.now)) = ap (λ o. as_table (value_at s ls (item_of o))) (sym k.field-0-is) in
    let told = measured_one s Count (the_view c.work.inside) c.args.work.now c.work.view_is (Answer c.number_of.result) (item_of k.field-0.now) rows k.ensures is (c.number_of.ensures rows c.in_ok-count.ensures.count.0) in
    told.0

pub returns-clause-found : goal.returns-clause-found
returns-clause-found c =
    let s = c.args.stored.now.state in
    let ls = c.work.inside.changes.layers in
    let k = c.in-Some-Named in
    let rows = rows_at (seen_at s ls k.tip) k.rel.0 in
    let is : Some rows ≡ as_table (value_at s ls (item_of k.field-0.now)) = ap (λ o. as_table (value_at s ls (item_of o))) (sym k.field-0-is) in
    let told = measured_one s Count (the_view c.work.inside) c.args.work.now c.work.view_is (Answer c.number_of.result) (item_of k.field-0.now) rows k.ensures is (c.number_of.ensures rows c.in_ok-count.ensures.count.0) in
    told.1
