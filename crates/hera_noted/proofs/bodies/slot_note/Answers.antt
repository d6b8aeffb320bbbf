-- The shape and the gathered schema are the slot's.
use Rattle.std.proofs.Common.{refl, sym, ap, ◌∙◌}
use Rattle.std.specs.Prelude.{Some}
use Rattle.std.proofs.lemmas.Option.{slice_get_read}
use Rattle.hera_noted.proofs.bodies.slot_note.Goals as goal

pub returns-clause-given : goal.returns-clause-given
returns-clause-given c = record {
  shape = slice_get_read c.args.shapes.now.slots.items _ c.args.i c.index.result.now refl c.requires.slot c.index.ensures ∙ ap (λ s. Some s) (sym c.in_ok-copy.ensures);
  gathers = slice_get_read c.args.shapes.now.gathers.items _ c.args.i c.index-2.result.now refl c.requires.gathers c.index-2.ensures ∙ ap (λ s. Some s) (sym c.in_ok-copied_schema.ensures);
}
