use Rattle.std.proofs.Common.{◌≡◌, take, map}
use Rattle.hera_meaning.specs.declared.schemas.Attr.{Attr}
use Rattle.hera_meaning.specs.Forms.{of_scalar}
use Rattle.hera_stacks.specs.Flat.{flat_form}
use Rattle.hera_effects.proofs.cuts.attr_forms.Given as goal

abbrev pub invariant-loop-i : goal.invariant-loop-i
invariant-loop-i l = l.forms.items ≡ take l.i (map (λ (a : Attr). flat_form (of_scalar a.kind)) l.schema)
