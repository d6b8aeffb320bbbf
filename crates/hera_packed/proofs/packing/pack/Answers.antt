use Rattle.std.proofs.Common.{◌≡◌, ◌∙◌, List, sym, subst}
use Rattle.std.proofs.lemmas.Result.{IfOk-weaker}
use Rattle.hera_code.specs.declared.instrs.Code.{Code}
use Rattle.hera_code_file.specs.Files.{file_of}
use Rattle.hera_host.specs.Tables.{specs_of}
use Rattle.hera_meaning.specs.declared.schemas.RelDecl.{RelDecl}
use Rattle.hera_meaning.specs.Plain.{program_of}
use Rattle.hera_typed.specs.Effects.{Body_note}
use Rattle.hera_verify.specs.Rejected.{IsVerified}
use Rattle.hera_packed.specs.Packed.{code_in, notes_in, IsFileOf, IsPackOf}
use Rattle.hera_packed.proofs.Noting.{fit_noted, code_back, noted_back}
use Rattle.hera_packed.proofs.packing.pack.Goals as goal

pub write-requires-clause-noted : goal.write-requires-clause-noted
write-requires-clause-noted g c = fit_noted c.args.code.now c.in_ok-notes.notes c.in_ok-notes.ensures.fit

pub returns : goal.returns
returns g c =
    let p = program_of c.args.program.now in
    let hosts = specs_of c.args.hosts.now.names in
    let code = c.args.code.now in
    let notes = c.in_ok-notes.notes in
    let rels = c.deref.result.now in
    let file = file_of rels code notes in
    let noted = fit_noted code notes c.in_ok-notes.ensures.fit in
    let code_is : code_in file ≡ code = code_back rels code notes noted in
    let notes_are = noted_back rels code notes noted in
    let typed : IsVerified (code_in file) rels hosts (notes_in file) =
    subst (λ (rs : List RelDecl). IsVerified (code_in file) rs hosts (notes_in file)) (sym c.deref.ensures.value)
    (subst (λ (x : Code). IsVerified x p.relations hosts (notes_in file)) (sym code_is) (subst (λ (ns : List Body_note). IsVerified code p.relations hosts ns) (sym notes_are) c.in_ok-notes.ensures.typed)) in
    IfOk-weaker c.write.result (λ line. IsFileOf line file) (λ line. IsPackOf hosts p line)
    (λ line is. record { file = file; is = is; relations = c.deref.ensures.value; code = code_is ∙ c.requires.code; typed = typed }) c.write.ensures
