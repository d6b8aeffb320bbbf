use Rattle.std.proofs.Common.{◌≡◌, ◌<◌, List, length, Some, Err, refl, sym, ap, ◌∙◌, subst, arith}
use Rattle.std.specs.Prelude.{map, slice_get}
use Rattle.std.proofs.lemmas.Option.{slice_get_read}
use Rattle.hera_meaning.specs.declared.schemas.RelDecl.{RelDecl}
use Rattle.hera_meaning.specs.Trees.{Program_tree, Body_tree}
use Rattle.hera_meaning.specs.Plain.{program_of, body_of}
use Rattle.hera_meaning.specs.Sound.{Sound}
use Rattle.hera_rules.specs.Bound.{bound, bound_body, Differs}
use Rattle.hera_bind.specs.declared.binding.BindFault.TheVariants as fault
use Rattle.hera_bind.specs.Having.{AllHas, IsFirstMissing}
use Rattle.hera_bind.proofs.Found.{missing_within, missing_differs, one_difference, all_no_difference}
use Rattle.hera_bind.proofs.Kept.{bound_sound}
use Rattle.hera_bind.proofs.binding.bind.Goals as goal

pub remove-name-requires : goal.remove-name-requires
remove-name-requires c = omega (arith, c.deref.ensures.len, missing_within c.args.catalogue.now c.deref.result.now c.in-Some.place c.in-Some.ensures)

pub returns-in-Some-clause-differs : goal.returns-in-Some-clause-differs
returns-in-Some-clause-differs c = λ name.
    (let cat = c.args.catalogue.now in
    let own = c.args.program.relations.items in
    let within = missing_within cat c.deref.result.now c.in-Some.place c.in-Some.ensures in
    let there : slice_get own c.in-Some.place ≡ Some c.remove-name.result =
    slice_get_read own (length own) c.in-Some.place c.remove-name.result refl (subst (λ ds. c.in-Some.place < length ds) c.deref.ensures.value within) c.remove-name.ensures.value in
    let here = missing_differs cat own c.in-Some.place c.remove-name.result (subst (λ ds. IsFirstMissing cat ds c.in-Some.place) c.deref.ensures.value c.in-Some.ensures) there in (
      λ e. let q : c.remove-name.result.name ≡ name = cc in subst (λ n. Differs cat own n) q here,
      λ d. ap (λ n. Err (fault.Differs n)) (one_difference cat own c.remove-name.result.name name here d),
    ))

pub returns-in-Err-clause-differs : goal.returns-in-Err-clause-differs
returns-in-Err-clause-differs c = λ name. (
  λ e. absurd cc,
  λ d. absurd (all_no_difference c.args.catalogue.now c.args.program.relations.items name (subst (λ ds. AllHas c.args.catalogue.now ds) c.deref.ensures.value c.in_default.ensures) d),
)

pub returns-clause-differs : goal.returns-clause-differs
returns-clause-differs c = λ name. (
  λ e. absurd cc,
  λ d. absurd (all_no_difference c.args.catalogue.now c.args.program.relations.items name (subst (λ ds. AllHas c.args.catalogue.now ds) c.deref.ensures.value c.in_default.ensures) d),
)

pub returns-clause-sound : goal.returns-clause-sound
returns-clause-sound c = λ hosts s.
    (let all = subst (λ ds. AllHas c.args.catalogue.now ds) c.deref.ensures.value c.in_default.ensures in
    let kept = bound_sound (program_of c.args.program) c.args.catalogue.now hosts c.copies.ensures.valid all s in
    let cat = c.args.catalogue.now in
    let made : List RelDecl → List Body_tree → Program_tree = λ ds bs. record { relations = ds; bodies = bs } in
    let same : program_of record { relations = c.in-Ok.decls; bodies = c.bind_bodies.new.bodies } ≡ bound (program_of c.args.program) cat =
    ap (λ ds. made ds (map body_of c.bind_bodies.new.bodies.items)) c.in-Ok.ensures.copied
    ∙ ap (λ bs. made cat bs) (c.bind_bodies.ensures ∙ ap (λ ds. map (bound_body ds cat) (map body_of c.args.program.bodies.items)) c.deref-2.ensures.value) in
    subst (λ p. Sound p hosts) (sym same) kept)
