use Rattle.std.proofs.Common.{◌∙◌}
use Rattle.std.proofs.lemmas.Result.{IfOk-weaker}
use Rattle.hera_shapes.proofs.Agreed.{script_agrees}
use Rattle.hera_shapes.proofs.Begun.{shaped_so}
use Rattle.hera_shapes.proofs.bodies.shapes.Goals as goal

pub returns-clause-types : goal.returns-clause-types
returns-clause-types g c = IfOk-weaker c.script_shapes.result _ _ (λ all h p typed. h ∙ script_agrees typed) c.script_shapes.ensures

pub returns-clause-shaped : goal.returns-clause-shaped
returns-clause-shaped g c =
    IfOk-weaker c.script_shapes.result _ _ (λ all h p tokens text size values typed. shaped_so typed all.items (h ∙ script_agrees typed)
    (c.typed_programs_are_shaped.ensures c.args.tree.now tokens c.args.hosts.now.names p text size values c.len-count.ensures.valid typed)) c.script_shapes.ensures
