use Rattle.std.proofs.Common.{refl, ap, [], subst, ◌∙◌, None, false, length, arith}
use Rattle.std.specs.Prelude.{replicate}
use Rattle.hera_host.specs.Tables.{specs_of}
use Rattle.hera_typed.specs.Notes.{notes_of}
use Rattle.hera_verify.specs.Tables.{AreStarts}
use Rattle.hera_verify.proofs.Flowing.{first_table}
use Rattle.hera_verify.proofs.flow.first.Goals as goal

pub returns : goal.returns
returns g c =
    let bodies = c.args.around.now.code.now.bodies in
    record {
      table = first_table c.args.around.now.code.now c.args.around.now.relations.now (specs_of c.args.around.now.hosts.now.names) (notes_of c.args.around.now.notes.now) c.in_ok-spots.spots.items (record { spots = c.in_ok-spots.spots; broken = c.in_ok-broken.broken; far = None })
          (subst (λ n. AreStarts n bodies (length bodies) c.in_ok-spots.spots.items) c.len-count.ensures c.in_ok-spots.ensures) (c.in_ok-broken.ensures ∙ ap (λ n. replicate n false) c.len-count.ensures) refl;
      place = record { there = c.requires; reach = c.first_reach.ensures; begun = (c.first_reach.ensures.from 0).1 (λ j b some none here. absurd (omega (arith, some, none))) };
      behind = refl;
      calls = c.no_calls.ensures c.args.around.now.code.now c.args.around.now.relations.now (specs_of c.args.around.now.hosts.now.names) (notes_of c.args.around.now.notes.now) [];
      passes = refl;
    }
