use Rattle.std.proofs.Common.{◌++◌, List, ℕ, sym, ap, ◌∙◌, append_assoc, take, length}
use Rattle.std.specs.List.{flat_map}
use Rattle.std.specs.Int.{to_be_bytes, w16}
use Rattle.rel_format.specs.Pages.{decl_bytes}
use Rattle.rel_format.proofs.Fronts.{prints_more}
use Rattle.rel_format.proofs.writing.header_bytes.Goals as goal

pub loop-number-preserved : goal.loop-number-preserved
loop-number-preserved c =
    let front = c.args.magic.now ++ to_be_bytes w16 (length c.args.rels.now) in
    let done = flat_map decl_bytes (take c.loop-number.number c.args.rels.now) in
    let one = decl_bytes c.decl.result.now in
    c.in_ok-push_decl.ensures ∙ ap (λ (t : List ℕ). t ++ one) c.loop-number.invariant
    ∙ append_assoc front done one
    ∙ ap (λ (t : List ℕ). front ++ t) (sym (prints_more decl_bytes c.args.rels.now c.loop-number.number c.decl.result.now c.decl.ensures.decl))
