use Rattle.std.proofs.Common.{refl, sym}
use Rattle.hera_verify.proofs.Calling.{known_so}
use Rattle.hera_verify.proofs.calls.known.Goals as goal

pub returns-in-Some : goal.returns-in-Some
returns-in-Some c code rels hosts notes nodes is k at p h own =
    known_so code rels hosts notes nodes is c.args.left.now k c.args.a c.args.number at c.in-Some.operands.now p c.args.spot (record { operands = c.in-Some.operands.now; walks = c.args.spot.walks; layers = c.args.spot.layers }) c.on.result h (sym c.in-Some.ensures.value) own
    c.on.ensures.first c.on.ensures.second c.on.ensures.point refl refl refl
