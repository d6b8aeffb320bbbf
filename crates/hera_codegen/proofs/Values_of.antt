-- What a value of a form is.
use Rattle.std.proofs.Common.{◌≡◌, ℕ, zero, suc, true, List, [], ◌∷◌, length, map, replicate, refl, ap, ◌∙◌, subst}
use Rattle.std.proofs.lemmas.Bool.{and_parts}
use Rattle.hera_meaning.specs.declared.scalars.Kind.{Kind}
use Rattle.hera_meaning.specs.declared.scalars.Scalar.{Scalar}
use Rattle.hera_meaning.specs.declared.scalars.Scalar.TheVariants.{Int as int_scalar, Bool as bool_scalar, Text as text_scalar}
use Rattle.hera_meaning.specs.declared.schemas.Attr.{Attr}
use Rattle.hera_meaning.specs.declared.schemas.RelDecl.{RelDecl}
use Rattle.hera_meaning.specs.declared.trees.Op.{Op}
use Rattle.hera_meaning.specs.declared.trees.Op.TheVariants.{Neg, Not, Add, Sub, Mul, Div, Rem, Eq, Ne, Lt, Le, Gt, Ge, In, Field, MakeRow, MakeRel, Project, Union, Minus, Inter, Join, Group, Count, Empty, Sum, Min, Max, Atom as atom_op, Bulk, Ins, Del, IsFail, Smash, Merge}
use Rattle.hera_meaning.specs.declared.trees.Const.{Const}
use Rattle.hera_meaning.specs.declared.trees.Const.TheVariants.{Scalar as scalar_const, EmptyDelta, FailDelta}
use Rattle.hera_meaning.specs.Scalars.{kind_of, is_kind}
use Rattle.hera_meaning.specs.Values.{Value, scalar, tuple, table, delta, bool_value, is_true, scalar_in, row_in, rows_in, delta_in, operand}
use Rattle.hera_meaning.specs.Fits.{Want, a_scalar, a_tuple, meets, all_meet, wants, arity, is_good_op, fits_of}
use Rattle.hera_meaning.specs.Expressions.{const_value}
use Rattle.hera_meaning.specs.Forms.{Form, of_scalar, of_tuple, of_table, of_delta, bool_form}
use Rattle.hera_meaning.specs.Sound.{const_form, is_const}
use Rattle.hera_codegen.proofs.Codec.{IsOfKind, IsRowOf}
use Rattle.hera_codegen.proofs.HasForm.{HasForm, IsTableOf, IsDeltaIn}

module _ (rels : List RelDecl) where
  pub scalar_is : (k : Kind) (v : Value) → HasForm rels (of_scalar k) v → (v ≡ scalar (scalar_in v)) × IsOfKind k (scalar_in v)
  scalar_is k (scalar s) h = (refl, h)
  scalar_is k (tuple r) h = absurd h
  scalar_is k (table rows) h = absurd h
  scalar_is k (delta d) h = absurd h

  pub row_is : (ks : List Kind) (v : Value) → HasForm rels (of_tuple ks) v → (v ≡ tuple (row_in v)) × IsRowOf ks (row_in v)
  row_is ks (scalar s) h = absurd h
  row_is ks (tuple r) h = (refl, h)
  row_is ks (table rows) h = absurd h
  row_is ks (delta d) h = absurd h

  pub rows_is : (ks : List Kind) (v : Value) → HasForm rels (of_table ks) v → (v ≡ table (rows_in v)) × IsTableOf ks (rows_in v)
  rows_is ks (scalar s) h = absurd h
  rows_is ks (tuple r) h = absurd h
  rows_is ks (table rows) h = (refl, h)
  rows_is ks (delta d) h = absurd h

  pub delta_is : (v : Value) → HasForm rels of_delta v → (v ≡ delta (delta_in v)) × IsDeltaIn rels (delta_in v)
  delta_is (scalar s) h = absurd h
  delta_is (tuple r) h = absurd h
  delta_is (table rows) h = absurd h
  delta_is (delta d) h = (refl, h)

  pub bool_is : (v : Value) → HasForm rels bool_form v → v ≡ bool_value (is_true v)
  bool_is (scalar (int_scalar z)) h = cc
  bool_is (scalar (bool_scalar b)) h = refl
  bool_is (scalar (text_scalar t)) h = cc
  bool_is (tuple r) h = absurd h
  bool_is (table rows) h = absurd h
  bool_is (delta d) h = absurd h

  same_kind : (s : Scalar) → is_kind (kind_of s) s ≡ true
  same_kind (int_scalar z) = refl
  same_kind (bool_scalar b) = refl
  same_kind (text_scalar t) = refl

  pub const_has : (c : Const) (f : Form) → is_const c ≡ true → const_form c ≡ f → HasForm rels f (const_value c)
  const_has (scalar_const s) f e g = subst (λ f. HasForm rels f (scalar s)) g (same_kind s, e)
  const_has EmptyDelta f e g = subst (λ f. HasForm rels f (const_value EmptyDelta)) g (record { ascending = tt; atoms_are = tt })
  const_has FailDelta f e g = subst (λ f. HasForm rels f (const_value FailDelta)) g tt

-- ---- as many operands as the operation takes

all_meet_long : (ws : List Want) (vs : List Value) → all_meet ws vs ≡ true → length vs ≡ length ws
all_meet_long [] [] h = refl
all_meet_long [] (v ∷ vs) h = cc
all_meet_long (w ∷ ws) [] h = cc
all_meet_long (w ∷ ws) (v ∷ vs) h = ap suc (all_meet_long ws vs (and_parts (meets w v) (all_meet ws vs) h).1)

long_replicate : (n : ℕ) (w : Want) → length (replicate n w) ≡ n
long_replicate zero w = refl
long_replicate (suc n) w = ap suc (long_replicate n w)

long_wants : (schema : List Attr) → length (map (λ (a : Attr). a_scalar a.kind) schema) ≡ length schema
long_wants [] = refl
long_wants (a ∷ attrs) = ap suc (long_wants attrs)

wants_long : (op : Op) (v : Value) → length (wants op v) ≡ arity op
wants_long Neg v = refl
wants_long Not v = refl
wants_long Add v = refl
wants_long Sub v = refl
wants_long Mul v = refl
wants_long Div v = refl
wants_long Rem v = refl
wants_long Eq v = refl
wants_long Ne v = refl
wants_long Lt v = refl
wants_long Le v = refl
wants_long Gt v = refl
wants_long Ge v = refl
wants_long In v = refl
wants_long (Field schema i) v = refl
wants_long (MakeRow schema) v = long_wants schema
wants_long (MakeRel n) v = long_replicate n a_tuple
wants_long (Project schema places) v = refl
wants_long Union v = refl
wants_long Minus v = refl
wants_long Inter v = refl
wants_long (Join left right) v = refl
wants_long (Group schema by aggs) v = refl
wants_long Count v = refl
wants_long Empty v = refl
wants_long (Sum schema i) v = refl
wants_long (Min schema i) v = refl
wants_long (Max schema i) v = refl
wants_long (atom_op sign r) v = refl
wants_long (Bulk sign r) v = refl
wants_long (Ins r) v = refl
wants_long (Del r) v = refl
wants_long IsFail v = refl
wants_long Smash v = refl
wants_long Merge v = refl

pub fits_long : (op : Op) (vs : List Value) → fits_of op vs ≡ true → length vs ≡ arity op
fits_long op vs h = all_meet_long (wants op (operand vs 0)) vs (and_parts (is_good_op op) (all_meet (wants op (operand vs 0)) vs) h).1 ∙ wants_long op (operand vs 0)
