use Rattle.std.proofs.Common.{◌++◌, ◌∷◌, List, ℕ, sym, ap, ◌∙◌, append_assoc, take, length}
use Rattle.std.specs.List.{flat_map}
use Rattle.hera_meaning.specs.Identifiers.{IsIdentifier}
use Rattle.hera_row.proofs.SchemaNames.{name_of_all}
use Rattle.rel_format.specs.Pages.{name_bytes, attr_bytes}
use Rattle.rel_format.proofs.Fronts.{prints_more}
use Rattle.rel_format.proofs.writing.push_decl.Goals as goal

pub push_attr-requires : goal.push_attr-requires
push_attr-requires c = (name_of_all IsIdentifier c.args.decl.now.schema c.loop-i.i c.attr.result.now c.attr.ensures.attr c.requires.attrs).short

pub loop-i-preserved : goal.loop-i-preserved
loop-i-preserved c =
    let front = c.args.bytes.now.items in
    let name = name_bytes c.args.decl.now.name in
    let done : List ℕ = length c.args.decl.now.schema ∷ flat_map attr_bytes (take c.loop-i.i c.args.decl.now.schema) in
    let one = attr_bytes c.attr.result.now in
    c.in_ok-push_attr.ensures ∙ ap (λ (t : List ℕ). t ++ one) c.loop-i.invariant
    ∙ append_assoc front (name ++ done) one
    ∙ ap (λ (t : List ℕ). front ++ t) (append_assoc name done one)
    ∙ ap (λ (t : List ℕ). front ++ (name ++ length c.args.decl.now.schema ∷ t)) (sym (prints_more attr_bytes c.args.decl.now.schema c.loop-i.i c.attr.result.now c.attr.ensures.attr))
