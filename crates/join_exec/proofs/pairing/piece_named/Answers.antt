use Rattle.std.proofs.Common.{sym, ◌∙◌}
use Rattle.join_exec.proofs.PairLemmas.{piece_named-place, piece_named-nowhere}
use Rattle.join_exec.proofs.pairing.piece_named.Goals as goal

pub returns-in-Some : goal.returns-in-Some
returns-in-Some c = c.piece.ensures ∙ piece_named-place c.args.name.now c.args.schema.now c.args.row.now c.in-Some.place (sym c.in-Some.ensures.place)

pub returns-in-None : goal.returns-in-None
returns-in-None c = piece_named-nowhere c.args.name.now c.args.schema.now c.args.row.now 0 (sym c.in-None.ensures.place)
