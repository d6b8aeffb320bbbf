-- One before it writes the slot, or none.
use Rattle.std.proofs.Common.{refl, sym, ◌∙◌}
use Rattle.std.proofs.lemmas.Option.{slice_get_read, none-some, same_Some}
use Rattle.hera_noted.proofs.extents.note_slot.Goals as goal

pub returns-in-Some-clause-put : goal.returns-in-Some-clause-put
returns-in-Some-clause-put c e =
    let items = c.args.writes.now.items in
    let here = slice_get_read items _ c.args.slot c.index.result.now refl c.requires c.index.ensures in
    absurd (none-some _ (same_Some _ _ (sym e ∙ here) ∙ c.in-Some.is))

pub returns-in-None-clause-kept : goal.returns-in-None-clause-kept
returns-in-None-clause-kept c w e =
    let items = c.args.writes.now.items in
    let here = slice_get_read items _ c.args.slot c.index.result.now refl c.requires c.index.ensures in
    absurd (none-some w (sym c.in-None.is ∙ same_Some _ _ (sym here ∙ e)))
