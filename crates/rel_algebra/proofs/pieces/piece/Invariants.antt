use Rattle.rel_algebra.proofs.PieceLemmas.{IsBefore}
use Rattle.rel_algebra.proofs.pieces.piece.Given as goal

abbrev pub invariant-loop-place : goal.invariant-loop-place
invariant-loop-place l = IsBefore l.schema l.row l.i l.place l.rest
