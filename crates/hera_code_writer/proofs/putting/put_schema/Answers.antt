use Rattle.std.proofs.Common.{◌++◌, ◌∷◌, List, ℕ, sym, ap, ◌∙◌, append_assoc, take, length}
use Rattle.std.specs.List.{flat_map}
use Rattle.hera_meaning.specs.Identifiers.{IsIdentifier}
use Rattle.hera_row.proofs.SchemaNames.{name_of_all}
use Rattle.rel_format.specs.Pages.{attr_bytes}
use Rattle.rel_format.proofs.Fronts.{prints_more}
use Rattle.hera_code_writer.proofs.putting.put_schema.Goals as goal

pub put_attr-requires : goal.put_attr-requires
put_attr-requires c = (name_of_all IsIdentifier c.args.schema.now c.loop-i.i c.attr.result.now c.attr.ensures.attr c.requires).short

pub loop-i-preserved : goal.loop-i-preserved
loop-i-preserved c =
    let front = c.args.out.now.items in
    let done : List ℕ = length c.args.schema.now ∷ flat_map attr_bytes (take c.loop-i.i c.args.schema.now) in
    let one = attr_bytes c.attr.result.now in
    c.in_ok-put_attr.ensures ∙ ap (λ (t : List ℕ). t ++ one) c.loop-i.invariant
    ∙ append_assoc front done one
    ∙ ap (λ (t : List ℕ). front ++ length c.args.schema.now ∷ t) (sym (prints_more attr_bytes c.args.schema.now c.loop-i.i c.attr.result.now c.attr.ensures.attr))
