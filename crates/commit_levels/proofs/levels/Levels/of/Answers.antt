use Rattle.std.proofs.Common.{Some, take, add-one, sym, ap, ◌∙◌}
use Rattle.std.proofs.lemmas.Option.{slice_get-get_or}
use Rattle.hera_meaning.specs.Deltas.{State, apply_of}
use Rattle.hera_meaning.specs.Fits.{is_delta_of}
use Rattle.when_overlay.specs.Changed.{after_all}
use Rattle.commit_levels.proofs.Mergings.{after_take, all_at}
use Rattle.commit_levels.proofs.levels.Levels.of.Goals as goal

pub loop-delta-preserved : goal.loop-delta-preserved
loop-delta-preserved c =
    let ds = c.args.commits.now in
    let i = c.loop-delta.delta-index in
    let got = slice_get-get_or ds i c.delta-item.result c.loop-delta-test.true ∙ ap Some (sym c.delta-item.is) in
    record {
      does = λ s.
          c.in_ok-push.ensures.does s ∙ ap (λ (t : State). apply_of t c.delta-item.result) (c.loop-delta.invariant.does s)
          ∙ sym (after_take s ds i c.delta-item.result got) ∙ ap (λ n. after_all s (take n ds)) (sym (add-one i));
      known = λ rels all. c.in_ok-push.ensures.known rels (c.loop-delta.invariant.known rels all) (all_at (is_delta_of rels) ds i c.delta-item.result all got);
    }
