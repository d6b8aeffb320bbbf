-- Forms in which lists of kinds are numbers.
use Rattle.std.specs.Prelude.{ℕ, ◌+◌, ◌*◌, Bool, true, false, List, [], ◌∷◌, nat_eq}
use Rattle.hera_meaning.specs.declared.scalars.Kind.{Kind}
use Rattle.hera_meaning.specs.declared.scalars.Kind.TheVariants.{Int as int_kind, Bool as bool_kind, Text as text_kind}
use Rattle.hera_meaning.specs.Scalars.{is_same_kind}
use Rattle.hera_meaning.specs.Forms.{Form, of_scalar, of_tuple, of_table, of_delta}
use Rattle.hera_typed.specs.Points.{Seen, known, no_rows}
use Rattle.hera_stacks.specs.declared.forms.Kinds.{Kinds}
use Rattle.hera_stacks.specs.declared.forms.FlatForm.{FlatForm}
use Rattle.hera_stacks.specs.declared.forms.FlatForm.TheVariants as flat
use Rattle.hera_stacks.specs.declared.forms.FlatSeen.{FlatSeen}
use Rattle.hera_stacks.specs.declared.forms.FlatSeen.TheVariants as flat_seens

abbrev pub digit : Kind → ℕ
digit int_kind = 1
digit bool_kind = 2
digit text_kind = 3

-- the number of kinds behind others that have this number
abbrev pub numbered : ℕ → List Kind → ℕ
numbered n [] = n
numbered n (k ∷ ks) = numbered (4 * n + digit k) ks

abbrev pub flat_kinds : List Kind → Kinds
flat_kinds ks = record { digits = numbered 0 ks }

abbrev pub flat_form : Form → FlatForm
flat_form (of_scalar k) = flat.Scalar k
flat_form (of_tuple ks) = flat.Tuple (flat_kinds ks)
flat_form (of_table ks) = flat.Table (flat_kinds ks)
flat_form of_delta = flat.Delta

abbrev pub flat_seen : Seen → FlatSeen
flat_seen (known f) = flat_seens.Known (flat_form f)
flat_seen no_rows = flat_seens.NoRows

abbrev pub same_flat : FlatForm → FlatForm → Bool
same_flat (flat.Scalar k) (flat.Scalar l) = is_same_kind k l
same_flat (flat.Tuple ks) (flat.Tuple ls) = nat_eq ks.digits ls.digits
same_flat (flat.Table ks) (flat.Table ls) = nat_eq ks.digits ls.digits
same_flat flat.Delta flat.Delta = true
same_flat _ _ = false
