use Rattle.std.proofs.Common.{arith}
use Rattle.hera_verify.proofs.Reaching.{next_body, next_begun}
use Rattle.hera_verify.proofs.flow.next_place.Goals as goal

pub next-requires-clause-more : goal.next-requires-clause-more
next-requires-clause-more c =
    let p = c.requires.place in
    next_body c.args.code.now c.args.place.body c.args.a c.args.place.reach p.there p.reach p.begun c.requires.more

pub next-requires-clause-small : goal.next-requires-clause-small
next-requires-clause-small c =
    let p = c.requires.place in
    let more = next_body c.args.code.now c.args.place.body c.args.a c.args.place.reach p.there p.reach p.begun c.requires.more in
    omega (arith, more, c.len-count.ensures, c.len-count.auto)

pub returns-clause-place : goal.returns-clause-place
returns-clause-place c =
    let p = c.requires.place in
    record {
      there = next_body c.args.code.now c.args.place.body c.args.a c.args.place.reach p.there p.reach p.begun c.requires.more;
      reach = c.next.ensures;
      begun = next_begun c.args.code.now c.args.place.body c.args.a c.args.place.reach p.there p.reach p.begun c.requires.more c.next.result c.next.ensures;
    }
