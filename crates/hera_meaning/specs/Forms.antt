-- Forms: shapes without attribute names; and what each operation takes and gives.
use Rattle.std.specs.Prelude.{◌≡◌, ◌<◌, ◌≤◌, ◌⊎◌, ℕ, zero, suc, true, List, [], ◌∷◌, ◌++◌, map, length, replicate}
use Rattle.hera_meaning.specs.declared.scalars.Kind.{Kind}
use Rattle.hera_meaning.specs.declared.scalars.Kind.TheVariants.{Int as int_kind, Bool as bool_kind, Text as text_kind}
use Rattle.hera_meaning.specs.declared.schemas.Attr.{Attr}
use Rattle.hera_meaning.specs.declared.schemas.RelDecl.{RelDecl}
use Rattle.hera_meaning.specs.declared.schemas.TheConstants.{ATTRS_LIMIT}
use Rattle.hera_meaning.specs.declared.schemas.Agg.{Agg}
use Rattle.hera_meaning.specs.declared.schemas.Agg.TheVariants.{Count as count_agg, Sum as sum_agg, Min as min_agg, Max as max_agg}
use Rattle.hera_meaning.specs.declared.trees.Op.{Op}
use Rattle.hera_meaning.specs.declared.trees.Op.TheVariants.{Neg, Not, Add, Sub, Mul, Div, Rem, Eq, Ne, Lt, Le, Gt, Ge, In, Field, MakeRow, MakeRel, Project, Union, Minus, Inter, Join, Group, Count, Empty, Sum, Min, Max, Atom as atom_op, Bulk, Ins, Del, IsFail, Smash, Merge}
use Rattle.hera_meaning.specs.declared.trees.Shape.{Shape}
use Rattle.hera_meaning.specs.declared.trees.Shape.TheVariants.{Int as int_shape, Bool as bool_shape, Text as text_shape, Tuple, Rel, Delta as delta_shape}
use Rattle.hera_meaning.specs.Deltas.{schema_of}
use Rattle.hera_meaning.specs.Relations.{lacking}
use Rattle.hera_meaning.specs.Schemas.{AreDistinct, names_of}
use Rattle.hera_meaning.specs.Fits.{is_good_op}

-- a scalar of a kind, a tuple or a relation of these kinds in order, or a delta
pub data Form : Type 0 where
  of_scalar : Kind → Form
  of_tuple : List Kind → Form
  of_table : List Kind → Form
  of_delta : Form

abbrev pub kinds_of : List Attr → List Kind
kinds_of schema = map (λ a. a.kind) schema

abbrev pub form_of : Shape → Form
form_of int_shape = of_scalar int_kind
form_of bool_shape = of_scalar bool_kind
form_of text_shape = of_scalar text_kind
form_of (Tuple schema) = of_tuple (kinds_of schema)
form_of (Rel schema) = of_table (kinds_of schema)
form_of delta_shape = of_delta

-- the kind at a place, int past the last
abbrev pub kind_at : List Attr → ℕ → Kind
kind_at [] i = int_kind
kind_at (a ∷ attrs) zero = a.kind
kind_at (a ∷ attrs) (suc i) = kind_at attrs i

-- the kind of an aggregate
abbrev pub agg_kind : List Attr → Agg → Kind
agg_kind schema count_agg = int_kind
agg_kind schema (sum_agg i) = int_kind
agg_kind schema (min_agg i) = kind_at schema i
agg_kind schema (max_agg i) = kind_at schema i

-- the kinds of a projection, and of a group: its keys, then its aggregates
abbrev pub project_kinds : List Attr → List ℕ → List Kind
project_kinds schema places = map (kind_at schema) places

abbrev pub group_kinds : List Attr → List ℕ → List Agg → List Kind
group_kinds schema by aggs = project_kinds schema by ++ map (agg_kind schema) aggs

abbrev pub join_kinds : List Attr → List Attr → List Kind
join_kinds left right = kinds_of left ++ kinds_of (lacking left right)

-- a relation has 1 to 16 attributes
abbrev pub IsWidth : List Kind → Type 0
IsWidth ks = (1 ≤ length ks) × (length ks ≤ ATTRS_LIMIT)

abbrev pub int_form : Form
int_form = of_scalar int_kind

abbrev pub bool_form : Form
bool_form = of_scalar bool_kind

abbrev pub text_form : Form
text_form = of_scalar text_kind

abbrev pub both : Form → List Form
both f = f ∷ f ∷ []

-- two operands of one form, giving a bool
abbrev pub Compares : List Form → Form → Type 0
Compares fs f = (g : Form) × (fs ≡ both g) × (f ≡ bool_form)

-- two ints or two texts, giving a bool
abbrev pub Orders : List Form → Form → Type 0
Orders fs f = ((fs ≡ both int_form) ⊎ (fs ≡ both text_form)) × (f ≡ bool_form)

-- two relations of the same kinds, giving such a relation
abbrev pub Combines : List Form → Form → Type 0
Combines fs f = (ks : List Kind) × (fs ≡ both (of_table ks)) × (f ≡ of_table ks)

abbrev pub Gives : List Form → Form → List Form → Form → Type 0
Gives wanted given fs f = (fs ≡ wanted) × (f ≡ given)

-- the operation takes operands of these forms and gives this form, whatever its places
abbrev pub OpForms : List RelDecl → Op → List Form → Form → Type 0
OpForms rels Neg fs f = Gives (int_form ∷ []) int_form fs f
OpForms rels Not fs f = Gives (bool_form ∷ []) bool_form fs f
OpForms rels Add fs f = Gives (both int_form) int_form fs f
OpForms rels Sub fs f = Gives (both int_form) int_form fs f
OpForms rels Mul fs f = Gives (both int_form) int_form fs f
OpForms rels Div fs f = Gives (both int_form) int_form fs f
OpForms rels Rem fs f = Gives (both int_form) int_form fs f
OpForms rels Eq fs f = Compares fs f
OpForms rels Ne fs f = Compares fs f
OpForms rels Lt fs f = Orders fs f
OpForms rels Le fs f = Orders fs f
OpForms rels Gt fs f = Orders fs f
OpForms rels Ge fs f = Orders fs f
OpForms rels In fs f = (ks : List Kind) × (fs ≡ of_tuple ks ∷ of_table ks ∷ []) × (f ≡ bool_form)
OpForms rels (Field schema i) fs f = Gives (of_tuple (kinds_of schema) ∷ []) (of_scalar (kind_at schema i)) fs f
OpForms rels (MakeRow schema) fs f = Gives (map of_scalar (kinds_of schema)) (of_tuple (kinds_of schema)) fs f
-- of no tuples the relation has any kinds
OpForms rels (MakeRel n) fs f = (ks : List Kind) × (fs ≡ replicate n (of_tuple ks)) × (f ≡ of_table ks)
OpForms rels (Project schema places) fs f =
    Gives (of_table (kinds_of schema) ∷ []) (of_table (project_kinds schema places)) fs f × IsWidth (project_kinds schema places)
OpForms rels Union fs f = Combines fs f
OpForms rels Minus fs f = Combines fs f
OpForms rels Inter fs f = Combines fs f
-- the right schema's names are distinct, as those of every schema are
OpForms rels (Join left right) fs f =
    Gives (of_table (kinds_of left) ∷ of_table (kinds_of right) ∷ []) (of_table (join_kinds left right)) fs f × AreDistinct (names_of right)
OpForms rels (Group schema by aggs) fs f =
    Gives (of_table (kinds_of schema) ∷ []) (of_table (group_kinds schema by aggs)) fs f × IsWidth (group_kinds schema by aggs)
OpForms rels Count fs f = (ks : List Kind) × (fs ≡ of_table ks ∷ []) × (f ≡ int_form)
OpForms rels Empty fs f = (ks : List Kind) × (fs ≡ of_table ks ∷ []) × (f ≡ bool_form)
OpForms rels (Sum schema i) fs f = Gives (of_table (kinds_of schema) ∷ []) int_form fs f
OpForms rels (Min schema i) fs f = Gives (of_table (kinds_of schema) ∷ []) (of_scalar (kind_at schema i)) fs f
OpForms rels (Max schema i) fs f = Gives (of_table (kinds_of schema) ∷ []) (of_scalar (kind_at schema i)) fs f
OpForms rels (atom_op sign r) fs f = Gives (of_tuple (kinds_of (schema_of rels r.0)) ∷ []) of_delta fs f × (r.0 < length rels)
OpForms rels (Bulk sign r) fs f = Gives (of_table (kinds_of (schema_of rels r.0)) ∷ []) of_delta fs f × (r.0 < length rels)
OpForms rels (Ins r) fs f = Gives (of_delta ∷ []) (of_table (kinds_of (schema_of rels r.0))) fs f × (r.0 < length rels)
OpForms rels (Del r) fs f = Gives (of_delta ∷ []) (of_table (kinds_of (schema_of rels r.0))) fs f × (r.0 < length rels)
OpForms rels IsFail fs f = Gives (of_delta ∷ []) bool_form fs f
OpForms rels Smash fs f = Gives (both of_delta) of_delta fs f
OpForms rels Merge fs f = Gives (both of_delta) of_delta fs f

-- the operation's places are good, and it takes these forms and gives this one
pub record OpIsOf (rels : List RelDecl) (op : Op) (fs : List Form) (f : Form) : Type 0 where
  pub good : is_good_op op ≡ true
  pub forms : OpForms rels op fs f
