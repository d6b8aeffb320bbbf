use Rattle.std.proofs.lemmas.Option.{slice_get-get_or}
use Rattle.hera_code_file.specs.Fitting.{IsWord}
use Rattle.hera_code_writer.proofs.Stands.{all_at, all_done}
use Rattle.hera_packed.proofs.standing.places_stand.Goals as goal

pub loop-place-preserved : goal.loop-place-preserved
loop-place-preserved c = all_at IsWord c.args.places.now c.loop-place.place-index _ (slice_get-get_or c.args.places.now c.loop-place.place-index _ c.loop-place-test.true) c.loop-place.invariant (c.is_word-in-loop-place.ensures c.if-not-is_word-2.false)

pub returns : goal.returns
returns c = λ _. (c.is_word.ensures c.if-not-is_word.false, all_done IsWord c.args.places.now c.loop-place.place-index c.loop-place-test.false c.loop-place.invariant)
