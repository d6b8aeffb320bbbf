use Rattle.std.proofs.Common.{◌∙◌, subst}
use Rattle.hera_reads.specs.Seeing.{rows_seen}
use Rattle.hera_frames.specs.Kinds.{PassAlike}
use Rattle.hera_frames.proofs.Alike.{fit_alike}
use Rattle.hera_frames.proofs.fitting.fits_seen.Goals as goal

pub returns : goal.returns
returns c =
    c.fits_rel.ensures
    ∙ fit_alike c.args.op.now (rows_seen c.doubtful.result) (rows_seen c.args.a.now) (rows_seen c.doubtful-2.result) (rows_seen c.args.b.now)
    (subst (λ o. PassAlike o (rows_seen c.doubtful.result) (rows_seen c.args.a.now)) c.left_of.ensures c.doubtful.ensures)
    (subst (λ o. PassAlike o (rows_seen c.doubtful-2.result) (rows_seen c.args.b.now)) c.right_of.ensures c.doubtful-2.ensures)
