-- The instruction leads nowhere, out of the body, or to one of its places.
use Rattle.std.proofs.Common.{◌<◌, ◌≤◌, inl, inr, ◌-◌, length, refl, sym, ◌∙◌, arith}
use Rattle.std.proofs.lemmas.Option.{slice_get_read}
use Rattle.hera_typed.proofs.Asking.{some_is, none_is}
use Rattle.hera_noted.proofs.Sourced.{ways_same, ways_more}
use Rattle.hera_noted.proofs.ways.note_way.Goals as goal

pub returns-in_default : goal.returns-in_default
returns-in_default c instrs here h = ways_same instrs c.args.body.start c.args.body.end c.args.at c.args.instr.now c.args.all.now.items here (λ b t. none_is _ b (c.in_default.ensures ∙ t)) h

pub returns-then-to-body : goal.returns-then-to-body
returns-then-to-body c instrs here h =
    ways_same instrs c.args.body.start c.args.body.end c.args.at c.args.instr.now c.args.all.now.items here (λ b t. (let same = some_is c.in-Some.to b (c.in-Some.ensures ∙ t) in inl (omega (arith, same, c.if-to-body.true)))) h

pub returns-then-body-to : goal.returns-then-body-to
returns-then-body-to c instrs here h =
    ways_same instrs c.args.body.start c.args.body.end c.args.at c.args.instr.now c.args.all.now.items here (λ b t. (let same = some_is c.in-Some.to b (c.in-Some.ensures ∙ t) in inr (omega (arith, same, c.if-body-to.true)))) h

pub returns : goal.returns
returns c instrs here h =
    let low : c.args.body.start ≤ c.in-Some.to = omega (arith, c.if-to-body.false) in
    let high : c.in-Some.to < c.args.body.end = omega (arith, c.if-body-to.false) in
    let within : c.in-Some.to - c.args.body.start < length c.args.all.now.items = omega (arith, low, high, c.requires.long) in
    rw (c.put.ensures, c.widened-sources.ensures) (ways_more instrs c.args.body.start c.args.body.end c.args.at c.in-Some.to c.args.instr.now c.index.result.now c.args.all.now.items here c.requires.start c.requires.end (sym c.in-Some.ensures) low high
    (slice_get_read c.args.all.now.items _ (c.in-Some.to - c.args.body.start) c.index.result.now refl within c.index.ensures) h)
