use Rattle.std.proofs.Common.{map, sym, subst, arith}
use Rattle.std.proofs.lemmas.Result.{IfOk-weaker}
use Rattle.hera_meaning.specs.Shapes.{body_shapes, IsShaped}
use Rattle.hera_meaning.specs.Plain.{program_of}
use Rattle.hera_codegen.proofs.Generated.{size_is}
use Rattle.hera_host.specs.Tables.{specs_of}
use Rattle.hera_noted.specs.Given.{HasBodies}
use Rattle.hera_shapes.proofs.Fitting.{has_bodies, notes_fit}
use Rattle.hera_shapes.proofs.noted.script_notes.Goals as goal

pub notes-requires-clause-size : goal.notes-requires-clause-size
notes-requires-clause-size g c =
    let p = program_of c.args.program.now in
    let t = c.requires.text in
    let is = c.in_ok-found.ensures.shaped p t.0 t.1 t.2 t.3 c.requires.typed in
    let small = is.shaped.size in
    omega (arith, small, size_is p c.args.code.now c.requires.code)

pub notes-requires-clause-shapes : goal.notes-requires-clause-shapes
notes-requires-clause-shapes g c =
    let p = program_of c.args.program.now in
    let t = c.requires.text in
    let found = c.in_ok-found.found in
    let is = c.in_ok-found.ensures.shaped p t.0 t.1 t.2 t.3 c.requires.typed in
    let has = has_bodies p (specs_of c.args.hosts.now.names) found.items c.requires.typed (c.in_ok-found.ensures.types p c.requires.typed) is in
    subst (λ bs. HasBodies p.bodies bs) (sym c.deref.ensures.value) has

pub returns-clause-fit : goal.returns-clause-fit
returns-clause-fit g c =
    let p = program_of c.args.program.now in
    let t = c.requires.text in
    let found = c.in_ok-found.found in
    let is = c.in_ok-found.ensures.shaped p t.0 t.1 t.2 t.3 c.requires.typed in
    let has = has_bodies p (specs_of c.args.hosts.now.names) found.items c.requires.typed (c.in_ok-found.ensures.types p c.requires.typed) is in
    IfOk-weaker c.notes.result _ _ (λ n h. notes_fit p c.args.code.now c.deref.result.now n c.requires.code (subst (λ bs. HasBodies p.bodies bs) (sym c.deref.ensures.value) has) h) c.notes.ensures.given

pub returns-clause-typed : goal.returns-clause-typed
returns-clause-typed g c =
    let p = program_of c.args.program.now in
    let t = c.requires.text in
    let hosts = specs_of c.args.hosts.now.names in
    let is = c.in_ok-found.ensures.shaped p t.0 t.1 t.2 t.3 c.requires.typed in
    IfOk-weaker c.notes.result _ _ (λ n h. h hosts (subst (λ bs. IsShaped p hosts (map body_shapes bs)) (sym c.deref.ensures.value) is)) c.notes.ensures.typed
