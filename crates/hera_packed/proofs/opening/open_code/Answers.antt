use Rattle.std.proofs.Common.{◌≡◌, ◌∙◌, List, Err, refl, sym, ap, subst}
use Rattle.hera_code.specs.declared.instrs.Code.{Code}
use Rattle.hera_code_file.specs.Files.{file_of}
use Rattle.hera_host.specs.Tables.{specs_of}
use Rattle.hera_typed.specs.Effects.{Body_note}
use Rattle.hera_verify.specs.Rejected.{IsVerified, IsRejectedAt}
use Rattle.hera_packed.specs.Packed.{code_in, notes_in}
use Rattle.hera_packed.proofs.Noting.{code_back, noted_back}
use Rattle.hera_packed.proofs.opening.open_code.Goals as goal

pub returns-in-Ok-verify-clause-opened : goal.returns-in-Ok-verify-clause-opened
returns-in-Ok-verify-clause-opened g c =
    let f = c.in-Ok.file in
    let rels = f.relations.items in
    let hosts = specs_of c.args.hosts.now.names in
    let file = file_of rels f.code f.notes in
    let code_is : code_in file ≡ f.code = code_back rels f.code f.notes c.in-Ok.ensures.noted in
    let notes_are = noted_back rels f.code f.notes c.in-Ok.ensures.noted in
    record {
      file = file;
      is = record { fits = c.in-Ok.ensures.fits; text = c.in-Ok.ensures.written };
      relations = refl;
      code_is = code_is;
      notes_are = notes_are;
      verified = subst (λ (code : Code). IsVerified code rels hosts (notes_in file)) (sym code_is)
          (subst (λ (notes : List Body_note). IsVerified f.code rels hosts notes) (sym notes_are) c.in-Ok-verify.ensures.typed);
    }

pub returns-in-Err-Rejected-clause-rejected : goal.returns-in-Err-Rejected-clause-rejected
returns-in-Err-Rejected-clause-rejected g c = λ at is.
    let f = c.in-Ok.file in
    let rels = f.relations.items in
    let hosts = specs_of c.args.hosts.now.names in
    let file = file_of rels f.code f.notes in
    let same : c.in-Err-Rejected.at ≡ at = cc (is) in
    let rejected = c.verify.ensures.rejected c.in-Err-Rejected.at (c.in-Err-Rejected.is ∙ ap Err c.in-Err-Rejected.field-0-is) in (
      file,
      record { fits = c.in-Ok.ensures.fits; text = c.in-Ok.ensures.written },
      subst (IsRejectedAt (code_in file) rels hosts (notes_in file)) same
          (subst (λ (code : Code). IsRejectedAt code rels hosts (notes_in file) c.in-Err-Rejected.at) (sym (code_back rels f.code f.notes c.in-Ok.ensures.noted))
          (subst (λ (notes : List Body_note). IsRejectedAt f.code rels hosts notes c.in-Err-Rejected.at) (sym (noted_back rels f.code f.notes c.in-Ok.ensures.noted)) rejected)),
    )
