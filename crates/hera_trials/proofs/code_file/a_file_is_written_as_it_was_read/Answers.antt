use Rattle.hera_code_file.specs.Files.{file_of}
use Rattle.hera_code_writer.proofs.Stands.{file_stands}
use Rattle.hera_trials.proofs.code_file.a_file_is_written_as_it_was_read.Goals as goal

pub write_code-requires-clause-stands : goal.write_code-requires-clause-stands
write_code-requires-clause-stands g c = rw c.deref.ensures.value (file_stands (file_of c.in-Ok.file.relations.items c.in-Ok.file.code c.in-Ok.file.notes) c.in-Ok.ensures.fits)
