use Rattle.std.proofs.Common.{subst, ap, ◌∙◌, true, false}
use Rattle.hera_rows.specs.Places.{IsPlace}
use Rattle.hera_rows.specs.Froms.{low_of}
use Rattle.hera_rows.proofs.FromLemmas.{held_past, held_from, absent_passes}
use Rattle.hera_rows.proofs.packing.Packing.first.Goals as goal

pub returns-in-Past : goal.returns-in-Past
returns-in-Past c =
    let place = subst (λ z. IsPlace c.args.self.now z true c.in-Ok.i) (c.low.ensures ∙ ap low_of c.in-Past.is) c.in-Ok.ensures.place in
    rw c.in-Past.is (held_past c.in-Past.field-0.now c.args.self.now c.in-Ok.i c.in-Ok.ensures.ordered place)

pub returns-in-From : goal.returns-in-From
returns-in-From c =
    let place = subst (λ z. IsPlace c.args.self.now z true c.in-Ok.i) (c.low.ensures ∙ ap low_of c.in-From.is) c.in-Ok.ensures.place in
    rw c.in-From.is (held_from c.in-From.field-0.now c.args.self.now c.in-Ok.i place)

pub returns-in-Err : goal.returns-in-Err
returns-in-Err c = absent_passes c.args.bound c.args.self.now c.in-Err.i (subst (λ z. IsPlace c.args.self.now z false c.in-Err.i) c.low.ensures c.in-Err.ensures.place)
