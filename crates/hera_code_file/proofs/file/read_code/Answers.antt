use Rattle.std.proofs.Common.{◌≡◌, sym, ap, ◌∙◌, arith}
use Rattle.hera_code_file.specs.Reading.{file_at}
use Rattle.hera_code_file.specs.Files.{file_of}
use Rattle.hera_code_file.proofs.Laws.{ok_is}
use Rattle.hera_code_file.proofs.File_laws.{file_takes, file_again, never_bad}
use Rattle.hera_code_file.proofs.file.read_code.Goals as goal

pub returns-in-Ok-clause-written : goal.returns-in-Ok-clause-written
returns-in-Ok-clause-written c = (file_takes c.args.bytes.now (file_of c.in-Ok.file.relations.items c.in-Ok.file.code c.in-Ok.file.notes) (λ i. omega (arith, c.type_inv.bytes i)) c.in-Ok.ensures.reads).0

pub returns-in-Ok-clause-fits : goal.returns-in-Ok-clause-fits
returns-in-Ok-clause-fits c = (file_takes c.args.bytes.now (file_of c.in-Ok.file.relations.items c.in-Ok.file.code c.in-Ok.file.notes) (λ i. omega (arith, c.type_inv.bytes i)) c.in-Ok.ensures.reads).1

pub returns-in-Ok-clause-back : goal.returns-in-Ok-clause-back
returns-in-Ok-clause-back c = λ f fits e. ok_is (file_of c.in-Ok.file.relations.items c.in-Ok.file.code c.in-Ok.file.notes) f (sym c.in-Ok.ensures.reads ∙ ap file_at e ∙ file_again f fits)

pub returns-in-Err-Bad-clause-back : goal.returns-in-Err-Bad-clause-back
returns-in-Err-Bad-clause-back c =
    let r = rw c.in-Err-Bad.field-0-is at c.in-Err-Bad.ensures.reads in
    λ f fits e. never_bad f c.in-Err-Bad.left (sym (file_again f fits) ∙ ap file_at (sym e) ∙ r)

pub returns-in-Err-Bad-clause-place : goal.returns-in-Err-Bad-clause-place
returns-in-Err-Bad-clause-place c =
    let r = rw c.in-Err-Bad.field-0-is at c.in-Err-Bad.ensures.reads in
    λ at e. let same : c.place_of-at.result ≡ at = cc in record { left = c.in-Err-Bad.left; breaks = r; here = sym same ∙ c.place_of-at.ensures }
