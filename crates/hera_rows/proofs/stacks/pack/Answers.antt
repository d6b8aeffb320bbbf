use Rattle.std.proofs.Common.{◌≡◌, ◌∷◌, ◌++◌, [], Some, List, sym, ap, ◌∙◌, subst}
use Rattle.std.specs.List.{slice_get}
use Rattle.hera_sets.specs.Rows.{Row, IsAscending}
use Rattle.hera_rows.specs.Blocks.{joined}
use Rattle.hera_rows.proofs.Fronts.{take_one_more, ascending_take_more}
use Rattle.hera_rows.proofs.stacks.pack.Goals as goal

pub push_last-requires-clause-last : goal.push_last-requires-clause-last
push_last-requires-clause-last c =
    let get : slice_get (joined c.args.blocks.now.items) c.loop-i.i ≡ Some c.row.result.now = subst (λ (bs : List (List Row)). slice_get (joined bs) c.loop-i.i ≡ Some c.row.result.now) c.deref-in-loop-i.ensures.value c.row.ensures in
    subst (λ (t : List Row). IsAscending (t ++ c.row.result.now ∷ [])) (sym c.loop-i.invariant.done) (ascending_take_more (joined c.args.blocks.now.items) c.loop-i.i c.row.result.now c.requires.stacked.order.ascending get)

pub loop-i-preserved : goal.loop-i-preserved
loop-i-preserved c =
    let get : slice_get (joined c.args.blocks.now.items) c.loop-i.i ≡ Some c.row.result.now = subst (λ (bs : List (List Row)). slice_get (joined bs) c.loop-i.i ≡ Some c.row.result.now) c.deref-in-loop-i.ensures.value c.row.ensures in
    record {
      stacked = c.push_last.ensures.stacked;
      done = c.in_ok-push_last.ensures.ok ∙ ap (λ (t : List Row). t ++ c.row.result.now ∷ []) c.loop-i.invariant.done ∙ sym (take_one_more (joined c.args.blocks.now.items) c.loop-i.i c.row.result.now get);
    }
