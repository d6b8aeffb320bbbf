use Rattle.std.proofs.Common.{◌∙◌, sym}
use Rattle.hera_reads.specs.Seeing.{rows_seen}
use Rattle.hera_steps.proofs.Relating.{misfit}
use Rattle.hera_steps.proofs.running.relations.found_of.Goals as goal

pub returns-then-not-fits_seen-clause-found : goal.returns-then-not-fits_seen-clause-found
returns-then-not-fits_seen-clause-found c =
    misfit c.args.op.now (rows_seen c.args.a.now) (rows_seen c.args.b.now) c.requires.op c.requires.some (sym c.fits_seen.ensures ∙ c.if-not-fits_seen.true)
