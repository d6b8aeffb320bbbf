use Rattle.std.proofs.Common.{sym, ap, subst, ◌∙◌, arith}
use Rattle.hera_host.specs.Tables.{specs_of}
use Rattle.hera_typed.specs.Notes.{notes_of}
use Rattle.hera_verify.specs.Looks.{least, FindsFlow}
use Rattle.hera_verify.specs.Rejected.{Answers}
use Rattle.hera_verify.proofs.Verifying.{noted_few}
use Rattle.hera_verify.proofs.verifier.answer.Goals as goal

pub look-requires-clause-noted : goal.look-requires-clause-noted
look-requires-clause-noted g c = let e = noted_few c.args.file.now.code.bodies c.args.file.now.notes.bodies.items c.requires.noted in omega (arith, e)

pub returns : goal.returns
returns g c =
    subst (λ o. Answers c.args.file.now.code c.args.file.now.relations.items (specs_of c.args.hosts.now.names) (notes_of c.args.file.now.notes) o) (sym (c.least.ensures ∙ ap (λ x. least x c.in_ok-of_flow.of_flow) c.least-both.ensures))
    (c.the_least_look_is_the_answer.ensures c.args.file.now.code c.args.file.now.relations.items (specs_of c.args.hosts.now.names) (notes_of c.args.file.now.notes) c.requires.some_instr c.requires.some_body c.look-of_bodies.result c.in_ok-of_slots.of_slots c.in_ok-of_flow.of_flow
    (c.look-of_bodies.ensures c.args.file.now.relations.items (specs_of c.args.hosts.now.names)) (c.in_ok-of_slots.ensures c.args.file.now.relations.items (specs_of c.args.hosts.now.names)) (subst (λ rs. FindsFlow c.args.file.now.code rs (specs_of c.args.hosts.now.names) (notes_of c.args.file.now.notes) c.in_ok-of_flow.of_flow) c.deref.ensures.value c.in_ok-of_flow.ensures))
