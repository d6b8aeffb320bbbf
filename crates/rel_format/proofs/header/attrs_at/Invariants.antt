use Rattle.std.specs.Prelude.{◌≡◌, ◌≤◌, ◌-◌, [], length, All}
use Rattle.hera_meaning.specs.Identifiers.{IsIdentifier}
use Rattle.hera_meaning.specs.Schemas.{AreDistinct, names_of}
use Rattle.rel_format.specs.Pages.{Format}
use Rattle.rel_format.specs.Table.{RelationSoFar, behind_attr, with_attrs}
use Rattle.rel_format.specs.Places.{Reaches}
use Rattle.rel_format.proofs.header.attrs_at.Given as goal

abbrev pub invariant-loop : goal.invariant-loop
invariant-loop l = record {
  within : l.at ≤ length l.bytes;
  count : length l.attrs.items ≡ l.counter;
  distinct : AreDistinct (names_of l.attrs.items);
  names : All IsIdentifier (names_of l.attrs.items);
  read : (f : Format) (p : RelationSoFar) → p.attrs ≡ [] → Reaches f l.bytes l.fn.at (behind_attr p l.width) → Reaches f l.bytes l.at (behind_attr (with_attrs p l.attrs.items) (l.width - l.counter));
}
