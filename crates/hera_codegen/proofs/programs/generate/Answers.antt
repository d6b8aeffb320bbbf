use Rattle.std.proofs.Common.{◌≡◌, length}
use Rattle.std.proofs.lemmas.Result.{IfOk-weaker}
use Rattle.hera_meaning.specs.Addresses.{size_of}
use Rattle.hera_meaning.specs.Plain.{program_of}
use Rattle.hera_code.specs.Forward.{Forward}
use Rattle.hera_code.specs.Listing.{IsListable}
use Rattle.hera_code.specs.Scheme.{code_of}
use Rattle.hera_codegen.proofs.Generated.{forward_of, size_is, listable_of}
use Rattle.hera_codegen.proofs.programs.generate.Goals as goal

pub returns-clause-forward : goal.returns-clause-forward
returns-clause-forward c =
    let p = program_of c.args.program.now in
    IfOk-weaker c.emit_program.result (λ code. code ≡ code_of p) (λ code. Forward code) (λ code h. forward_of p code h) c.emit_program.ensures

pub returns-clause-size : goal.returns-clause-size
returns-clause-size c =
    let p = program_of c.args.program.now in
    IfOk-weaker c.emit_program.result (λ code. code ≡ code_of p) (λ code. length code.instrs ≡ size_of p) (λ code h. size_is p code h) c.emit_program.ensures

pub returns-clause-listable : goal.returns-clause-listable
returns-clause-listable c hosts s =
    let p = program_of c.args.program.now in
    IfOk-weaker c.emit_program.result (λ code. code ≡ code_of p) (λ code. IsListable code) (λ code h. listable_of p code hosts s h) c.emit_program.ensures
