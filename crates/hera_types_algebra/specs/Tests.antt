-- Tests of types, and the first fault of a `group`.
use Rattle.std.specs.Prelude.{ℕ, Bool, false, cond, List, Option, Some, None}
use Rattle.std.specs.List.{list_all}
use Rattle.hera_meaning.specs.declared.schemas.Attr.{Attr}
use Rattle.hera_meaning.specs.declared.trees.Shape.{Shape}
use Rattle.hera_meaning.specs.declared.trees.Shape.TheVariants.{Rel as rel}
use Rattle.hera_rules.specs.declared.words.Word.{Word}
use Rattle.hera_rules.specs.declared.words.Aggregate.{Aggregate}
use Rattle.hera_rules.specs.declared.fault.TypeFault.{TypeFault}
use Rattle.hera_rules.specs.declared.fault.TypeFault.TheVariants.{Mismatch as mismatch}
use Rattle.hera_rules.specs.Rules.{either, stranger_in, measured_words, result_fault, sums_int}
use Rattle.hera_rules.specs.Same.{same_schema}

-- rels of equal schemas
abbrev pub are_same_rels : Shape → Shape → Bool
are_same_rels (rel s) (rel t) = same_schema s t
are_same_rels _ _ = false

-- the first fault of a `group` over a rel of this schema
abbrev pub group_fault_in : ℕ → List Attr → List Word → List Aggregate → Option TypeFault
group_fault_in at s by aggs =
    either (stranger_in s by) (either (stranger_in s (measured_words aggs)) (either (result_fault at by aggs) (cond (list_all (λ a. sums_int s a.of) aggs) None (Some (mismatch at)))))
