use Rattle.hera_host.specs.Tables.{specs_of}
use Rattle.hera_typed.specs.Notes.{notes_of}
use Rattle.hera_verify.proofs.Verifying.{noted_fit, specs_good}
use Rattle.hera_verify.proofs.verifier.verify.Goals as goal

pub returns-in-Ok-None-clause-safe : goal.returns-in-Ok-None-clause-safe
returns-in-Ok-None-clause-safe g c s n state =
    c.verified_code_is_safe.ensures c.args.file.now.code c.args.file.now.relations.items (specs_of c.args.hosts.now.names) (notes_of c.args.file.now.notes) (rw c.in-Ok-None.field-0-is at c.in-Ok-None.ensures) (noted_fit c.args.file.now.code c.args.file.now.notes c.requires.noted) (specs_good c.args.hosts.now.names c.len-count.ensures.valid) s n state
