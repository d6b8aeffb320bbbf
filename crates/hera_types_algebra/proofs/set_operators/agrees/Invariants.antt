use Rattle.std.proofs.Common.{◌≡◌, drop, not, ◌||◌}
use Rattle.std.specs.List.{list_all}
use Rattle.hera_sets.specs.Rows.{is_same}
use Rattle.hera_meaning.specs.Scalars.{is_same_kind}
use Rattle.hera_meaning.specs.declared.schemas.Attr.{Attr}
use Rattle.hera_types_algebra.proofs.set_operators.agrees.Given as goal

abbrev pub invariant-loop-i : goal.invariant-loop-i
invariant-loop-i l =
    list_all (λ (b : Attr). not (is_same l.attr.name b.name) || is_same_kind l.attr.kind b.kind) l.right
    ≡ list_all (λ (b : Attr). not (is_same l.attr.name b.name) || is_same_kind l.attr.kind b.kind) (drop l.i l.right)
