-- Operations on values that have their forms: the operands fit, and the answer has its form.
use Rattle.std.proofs.Common.{◌≡◌, ℕ, zero, suc, ◌<◌, ◌⊎◌, ◌&&◌, not, Bool, true, false, cond, List, [], ◌∷◌, ◌++◌, map, length, replicate, Some, refl, sym, ap, subst, arith, inl, inr, filter, ℤ, pos, neg_ℤ, ◌+ℤ◌, ◌-ℤ◌, ◌*ℤ◌}
use Rattle.std.specs.Prelude.{int_div, int_rem, All}
use Rattle.std.specs.Ordering.{int_eq}
use Rattle.std.specs.List.{list_all, AllByRecursion}
use Rattle.std.proofs.lemmas.Bool.{false≢true, and_parts, and_from, ltb-true}
use Rattle.std.proofs.lemmas.List.Elements.{recursion_from_All}
use Rattle.hera_sets.specs.Rows.{Row, holds}
use Rattle.hera_sets.specs.Sets.{is_apart}
use Rattle.hera_meaning.specs.declared.scalars.Kind.{Kind}
use Rattle.hera_meaning.specs.declared.scalars.Kind.TheVariants.{Int as int_kind, Bool as bool_kind, Text as text_kind}
use Rattle.hera_meaning.specs.declared.scalars.Scalar.{Scalar}
use Rattle.hera_meaning.specs.declared.scalars.Scalar.TheVariants.{Int as int_scalar, Bool as bool_scalar, Text as text_scalar}
use Rattle.hera_meaning.specs.declared.schemas.Attr.{Attr}
use Rattle.hera_meaning.specs.declared.schemas.RelDecl.{RelDecl}
use Rattle.hera_meaning.specs.declared.schemas.Agg.{Agg}
use Rattle.hera_meaning.specs.declared.hosts.HostSpec.{HostSpec}
use Rattle.hera_meaning.specs.declared.hosts.HostSpec.TheVariants.{Band, Bucket, Prefix, Clamp}
use Rattle.hera_meaning.specs.declared.trees.TrapName.TheVariants.{Overflow, DivZero}
use Rattle.hera_meaning.specs.declared.trees.Op.{Op}
use Rattle.hera_meaning.specs.declared.trees.Op.TheVariants.{Neg, Not, Add, Sub, Mul, Div, Rem, Eq, Ne, Lt, Le, Gt, Ge, In, Field, MakeRow, MakeRel, Project, Union, Minus, Inter, Join, Group, Count, Empty, Sum, Min, Max, Atom as atom_op, Bulk, Ins, Del, IsFail, Smash, Merge}
use Rattle.hera_meaning.specs.declared.trees.Shape.{Shape}
use Rattle.hera_meaning.specs.declared.trees.Shape.TheVariants.{Int as int_shape, Bool as bool_shape, Text as text_shape, Tuple, Rel, Delta as delta_shape}
use Rattle.hera_meaning.specs.Scalars.{fits_int, kind_of, is_kind}
use Rattle.hera_meaning.specs.Rows.{is_row}
use Rattle.hera_meaning.specs.Relations.{at_places, project_of, pairs, agree, joined}
use Rattle.hera_meaning.specs.Aggregates.{is_few, sum_of, column, least_scalar, greatest_scalar, group_row, group_of, are_sums_in_range}
use Rattle.hera_meaning.specs.Deltas.{Atom, Delta, fail, atoms, is_plus, schema_of}
use Rattle.hera_meaning.proofs.DeltaLaws.{apply_of-smash_of}
use Rattle.hera_meaning.specs.Values.{Value, scalar, tuple, table, delta, int_value, bool_value, scalar_in, row_in}
use Rattle.hera_meaning.specs.Hosts.{Hosts, host_at, host_of, host_takes, host_gives, answer_value}
use Rattle.hera_meaning.specs.Primitives.{gives, refuses, in_range, is_least_by_minus_one, divided, read_delta, end_of_fields, given}
use Rattle.hera_meaning.specs.Fits.{Want, a_scalar, a_tuple, a_table, a_delta, meets, all_meet, like, is_place, is_good_agg, is_good_op, fits_of, has_shape}
use Rattle.hera_meaning.specs.Forms.{Form, of_scalar, of_tuple, of_table, of_delta, kinds_of, form_of, int_form, bool_form, text_form, both, kind_at, project_kinds, group_kinds, join_kinds, Compares, Orders, Combines, Gives, OpForms}
use Rattle.hera_meaning.specs.Sound.{is_spec}
use Rattle.hera_codegen.proofs.Codec.{IsOfKind, IsTupleOf, IsRowOf, row_reads}
use Rattle.hera_codegen.proofs.HasForm.{AreRowsOf, IsTableOf, HasForm, AllHave, IsDeltaIn}
use Rattle.hera_codegen.proofs.Facts.{AnswerHas, Facts}
use Rattle.hera_codegen.proofs.Tables.{rows_normal, table_normal, rows_filter, rows_append}
use Rattle.hera_codegen.proofs.Ints.{quot_in, rem_in, floor_in, clamp_in}
use Rattle.hera_codegen.proofs.Row_parts.{field_has, projected_rows, joined_rows, group_rows, column_kinds, least_of_kind, greatest_of_kind}
use Rattle.hera_codegen.proofs.Changes.{smash_in, merge_in, named_table, bulk_in, delta_test, state_in, nothing_in}

rows_test : (schema : List Attr) (rows : List Row) → AreRowsOf (kinds_of schema) rows → list_all (is_row schema) rows ≡ true
rows_test schema [] h = refl
rows_test schema (r ∷ rows) h = and_from (is_row schema r) (list_all (is_row schema) rows) (row_reads schema r h.0) (rows_test schema rows h.1)

kind_is : (k : Kind) (s : Scalar) → is_kind k s ≡ true → kind_of s ≡ k
kind_is int_kind (int_scalar z) h = refl
kind_is int_kind (bool_scalar b) h = absurd (false≢true h)
kind_is int_kind (text_scalar t) h = absurd (false≢true h)
kind_is bool_kind (int_scalar z) h = absurd (false≢true h)
kind_is bool_kind (bool_scalar b) h = refl
kind_is bool_kind (text_scalar t) h = absurd (false≢true h)
kind_is text_kind (int_scalar z) h = absurd (false≢true h)
kind_is text_kind (bool_scalar b) h = absurd (false≢true h)
kind_is text_kind (text_scalar t) h = refl

module _ (rels : List RelDecl) where
  -- the operands fit, and the answer has its form
  abbrev Fine : Op → Form → List Value → Type 0
  Fine op f vs = (fits_of op vs ≡ true) × AnswerHas rels f (given op vs)

  -- ---- what operands are

  one : (f : Form) (vs : List Value) (P : List Value → Type 0) → AllHave rels (f ∷ []) vs → ((v : Value) → HasForm rels f v → P (v ∷ [])) → P vs
  one f [] P h k = absurd h
  one f (v ∷ []) P h k = k v h.0
  one f (v ∷ u ∷ vs) P h k = absurd h.1

  two : (f g : Form) (vs : List Value) (P : List Value → Type 0) → AllHave rels (f ∷ g ∷ []) vs → ((v u : Value) → HasForm rels f v → HasForm rels g u → P (v ∷ u ∷ [])) → P vs
  two f g [] P h k = absurd h
  two f g (v ∷ []) P h k = absurd h.1
  two f g (v ∷ u ∷ []) P h k = k v u h.0 h.1.0
  two f g (v ∷ u ∷ x ∷ vs) P h k = absurd h.1.1

  int_case : (v : Value) (P : Value → Type 0) → HasForm rels int_form v → ((z : ℤ) → fits_int z ≡ true → P (int_value z)) → P v
  int_case (scalar (int_scalar z)) P h k = k z h.1
  int_case (scalar (bool_scalar b)) P h k = absurd (false≢true h.0)
  int_case (scalar (text_scalar t)) P h k = absurd (false≢true h.0)
  int_case (tuple r) P h k = absurd h
  int_case (table rows) P h k = absurd h
  int_case (delta d) P h k = absurd h

  bool_case : (v : Value) (P : Value → Type 0) → HasForm rels bool_form v → ((b : Bool) → P (bool_value b)) → P v
  bool_case (scalar (int_scalar z)) P h k = absurd (false≢true h.0)
  bool_case (scalar (bool_scalar b)) P h k = k b
  bool_case (scalar (text_scalar t)) P h k = absurd (false≢true h.0)
  bool_case (tuple r) P h k = absurd h
  bool_case (table rows) P h k = absurd h
  bool_case (delta d) P h k = absurd h

  text_case : (v : Value) (P : Value → Type 0) → HasForm rels text_form v → ((t : List ℕ) → P (scalar (text_scalar t))) → P v
  text_case (scalar (int_scalar z)) P h k = absurd (false≢true h.0)
  text_case (scalar (bool_scalar b)) P h k = absurd (false≢true h.0)
  text_case (scalar (text_scalar t)) P h k = k t
  text_case (tuple r) P h k = absurd h
  text_case (table rows) P h k = absurd h
  text_case (delta d) P h k = absurd h

  tuple_case : (ks : List Kind) (v : Value) (P : Value → Type 0) → HasForm rels (of_tuple ks) v → ((r : Row) → IsRowOf ks r → P (tuple r)) → P v
  tuple_case ks (scalar s) P h k = absurd h
  tuple_case ks (tuple r) P h k = k r h
  tuple_case ks (table rows) P h k = absurd h
  tuple_case ks (delta d) P h k = absurd h

  table_case : (ks : List Kind) (v : Value) (P : Value → Type 0) → HasForm rels (of_table ks) v → ((rows : List Row) → IsTableOf ks rows → P (table rows)) → P v
  table_case ks (scalar s) P h k = absurd h
  table_case ks (tuple r) P h k = absurd h
  table_case ks (table rows) P h k = k rows h
  table_case ks (delta d) P h k = absurd h

  delta_case : (v : Value) (P : Value → Type 0) → HasForm rels of_delta v → ((d : Delta) → IsDeltaIn rels d → P (delta d)) → P v
  delta_case (scalar s) P h k = absurd h
  delta_case (tuple r) P h k = absurd h
  delta_case (table rows) P h k = absurd h
  delta_case (delta d) P h k = k d h

  by_gives : (wanted fs : List Form) (g f : Form) (op : Op) (vs : List Value) → Gives wanted g fs f → AllHave rels fs vs → (AllHave rels wanted vs → Fine op g vs) → Fine op f vs
  by_gives wanted fs g f op vs e have k = subst (λ f. Fine op f vs) (sym e.1) (k (subst (λ fs. AllHave rels fs vs) e.0 have))

  ints : (vs : List Value) (P : List Value → Type 0) → AllHave rels (both int_form) vs → ((a b : ℤ) → fits_int a ≡ true → fits_int b ≡ true → P (int_value a ∷ int_value b ∷ [])) → P vs
  ints vs P h k = two int_form int_form vs P h (λ v u hv hu. int_case v (λ v. P (v ∷ u ∷ [])) hv (λ a fa. int_case u (λ u. P (int_value a ∷ u ∷ [])) hu (λ b fb. k a b fa fb)))

  -- ---- answers

  in_range_has : (z : ℤ) → AnswerHas rels int_form (in_range z)
  in_range_has z = by (fits_int z) refl
    where
      by : (b : Bool) → fits_int z ≡ b → AnswerHas rels int_form (cond b (gives (int_value z)) (refuses Overflow))
      by true e = (refl, e)
      by false e = tt

  divided_has : (f : ℤ → ℤ → ℤ) (a b : ℤ) → (is_least_by_minus_one a b ≡ false → fits_int (f a b) ≡ true) → AnswerHas rels int_form (divided f a b)
  divided_has f a b h = by (int_eq b (pos 0)) (is_least_by_minus_one a b) refl
    where
      by : (c d : Bool) → is_least_by_minus_one a b ≡ d → AnswerHas rels int_form (cond c (refuses DivZero) (cond d (refuses Overflow) (gives (int_value (f a b)))))
      by true d e = tt
      by false true e = tt
      by false false e = (refl, h e)

  -- two operands of one form
  abbrev want_of : Form → Want
  want_of (of_scalar k) = a_scalar k
  want_of (of_tuple ks) = a_tuple
  want_of (of_table ks) = a_table
  want_of of_delta = a_delta

  meets_form : (g : Form) (u : Value) → HasForm rels g u → meets (want_of g) u ≡ true
  meets_form (of_scalar k) (scalar s) h = h.0
  meets_form (of_scalar k) (tuple r) h = absurd h
  meets_form (of_scalar k) (table rows) h = absurd h
  meets_form (of_scalar k) (delta d) h = absurd h
  meets_form (of_tuple ks) (scalar s) h = absurd h
  meets_form (of_tuple ks) (tuple r) h = refl
  meets_form (of_tuple ks) (table rows) h = absurd h
  meets_form (of_tuple ks) (delta d) h = absurd h
  meets_form (of_table ks) (scalar s) h = absurd h
  meets_form (of_table ks) (tuple r) h = absurd h
  meets_form (of_table ks) (table rows) h = refl
  meets_form (of_table ks) (delta d) h = absurd h
  meets_form of_delta (scalar s) h = absurd h
  meets_form of_delta (tuple r) h = absurd h
  meets_form of_delta (table rows) h = absurd h
  meets_form of_delta (delta d) h = refl

  like_form : (g : Form) (v : Value) → HasForm rels g v → want_of g ≡ like v
  like_form (of_scalar k) (scalar s) h = ap a_scalar (sym (kind_is k s h.0))
  like_form (of_scalar k) (tuple r) h = absurd h
  like_form (of_scalar k) (table rows) h = absurd h
  like_form (of_scalar k) (delta d) h = absurd h
  like_form (of_tuple ks) (scalar s) h = absurd h
  like_form (of_tuple ks) (tuple r) h = refl
  like_form (of_tuple ks) (table rows) h = absurd h
  like_form (of_tuple ks) (delta d) h = absurd h
  like_form (of_table ks) (scalar s) h = absurd h
  like_form (of_table ks) (tuple r) h = absurd h
  like_form (of_table ks) (table rows) h = refl
  like_form (of_table ks) (delta d) h = absurd h
  like_form of_delta (scalar s) h = absurd h
  like_form of_delta (tuple r) h = absurd h
  like_form of_delta (table rows) h = absurd h
  like_form of_delta (delta d) h = refl

  both_like : (g : Form) (v u : Value) → HasForm rels g v → HasForm rels g u → (meets (like v) v && (meets (like v) u && true)) ≡ true
  both_like g v u hv hu =
      subst (λ w. (meets w v && (meets w u && true)) ≡ true) (like_form g v hv) (and_from (meets (want_of g) v) (meets (want_of g) u && true) (meets_form g v hv) (and_from (meets (want_of g) u) true (meets_form g u hu) refl))

  compares : (fs : List Form) (f : Form) (vs : List Value) (P : Form → List Value → Type 0) → Compares fs f → AllHave rels fs vs → ((g : Form) (v u : Value) → HasForm rels g v → HasForm rels g u → P bool_form (v ∷ u ∷ [])) → P f vs
  compares fs f vs P is have k = subst (λ f. P f vs) (sym is.2) (two is.0 is.0 vs (P bool_form) (subst (λ fs. AllHave rels fs vs) is.1 have) (λ v u hv hu. k is.0 v u hv hu))

  orders : (fs : List Form) (f : Form) (vs : List Value) (P : Form → List Value → Type 0) → Orders fs f → AllHave rels fs vs →
      ((a b : ℤ) → P bool_form (int_value a ∷ int_value b ∷ [])) → ((a b : List ℕ) → P bool_form (scalar (text_scalar a) ∷ scalar (text_scalar b) ∷ [])) → P f vs
  orders fs f vs P is have k q = subst (λ f. P f vs) (sym is.1) (by is.0)
    where
      by : (fs ≡ both int_form) ⊎ (fs ≡ both text_form) → P bool_form vs
      by (inl e) = ints vs (P bool_form) (subst (λ fs. AllHave rels fs vs) e have) (λ a b fa fb. k a b)
      by (inr e) = two text_form text_form vs (P bool_form) (subst (λ fs. AllHave rels fs vs) e have) (λ v u hv hu. text_case v (λ v. P bool_form (v ∷ u ∷ [])) hv (λ a. text_case u (λ u. P bool_form (scalar (text_scalar a) ∷ u ∷ [])) hu (λ b. q a b)))

  combines : (fs : List Form) (f : Form) (vs : List Value) (P : Form → List Value → Type 0) → Combines fs f → AllHave rels fs vs →
      ((ks : List Kind) (xs ys : List Row) → IsTableOf ks xs → IsTableOf ks ys → P (of_table ks) (table xs ∷ table ys ∷ [])) → P f vs
  combines fs f vs P is have k =
      subst (λ f. P f vs) (sym is.2) (two (of_table is.0) (of_table is.0) vs (P (of_table is.0)) (subst (λ fs. AllHave rels fs vs) is.1 have)
      (λ v u hv hu. table_case is.0 v (λ v. P (of_table is.0) (v ∷ u ∷ [])) hv (λ xs hx. table_case is.0 u (λ u. P (of_table is.0) (table xs ∷ u ∷ [])) hu (λ ys hy. k is.0 xs ys hx hy))))

  a_table_operand : (ks : List Kind) (vs : List Value) (P : List Value → Type 0) → AllHave rels (of_table ks ∷ []) vs → ((rows : List Row) → IsTableOf ks rows → P (table rows ∷ [])) → P vs
  a_table_operand ks vs P have k = one (of_table ks) vs P have (λ v hv. table_case ks v (λ v. P (v ∷ [])) hv k)

  a_tuple_operand : (ks : List Kind) (vs : List Value) (P : List Value → Type 0) → AllHave rels (of_tuple ks ∷ []) vs → ((r : Row) → IsRowOf ks r → P (tuple r ∷ [])) → P vs
  a_tuple_operand ks vs P have k = one (of_tuple ks) vs P have (λ v hv. tuple_case ks v (λ v. P (v ∷ [])) hv k)

  a_delta_operand : (vs : List Value) (P : List Value → Type 0) → AllHave rels (of_delta ∷ []) vs → ((d : Delta) → IsDeltaIn rels d → P (delta d ∷ [])) → P vs
  a_delta_operand vs P have k = one of_delta vs P have (λ v hv. delta_case v (λ v. P (v ∷ [])) hv k)

  deltas : (vs : List Value) (P : List Value → Type 0) → AllHave rels (both of_delta) vs → ((d e : Delta) → IsDeltaIn rels d → IsDeltaIn rels e → P (delta d ∷ delta e ∷ [])) → P vs
  deltas vs P have k = two of_delta of_delta vs P have (λ v u hv hu. delta_case v (λ v. P (v ∷ u ∷ [])) hv (λ d hd. delta_case u (λ u. P (delta d ∷ u ∷ [])) hu (λ e he. k d e hd he)))

  -- one operand of a schema
  fits_schema : (good : Bool) (test : Bool) → good ≡ true → test ≡ true → (good && (test && true)) ≡ true
  fits_schema good test g h = and_from good (test && true) g (and_from test true h refl)

  make_fits : (schema : List Attr) (vs : List Value) → AllHave rels (map of_scalar (kinds_of schema)) vs → all_meet (map (λ (a : Attr). a_scalar a.kind) schema) vs ≡ true
  make_fits [] [] h = refl
  make_fits [] (v ∷ vs) h = absurd h
  make_fits (a ∷ attrs) [] h = absurd h
  make_fits (a ∷ attrs) (v ∷ vs) h = and_from (meets (a_scalar a.kind) v) (all_meet (map (λ (a : Attr). a_scalar a.kind) attrs) vs) (meets_form (of_scalar a.kind) v h.0) (make_fits attrs vs h.1)

  scalar_of_form : (k : Kind) (v : Value) → HasForm rels (of_scalar k) v → IsOfKind k (scalar_in v)
  scalar_of_form k (scalar s) h = h
  scalar_of_form k (tuple r) h = absurd h
  scalar_of_form k (table rows) h = absurd h
  scalar_of_form k (delta d) h = absurd h

  make_fields : (schema : List Attr) (vs : List Value) → AllHave rels (map of_scalar (kinds_of schema)) vs → IsTupleOf (kinds_of schema) (map scalar_in vs)
  make_fields [] [] h = tt
  make_fields [] (v ∷ vs) h = absurd h
  make_fields (a ∷ attrs) [] h = absurd h
  make_fields (a ∷ attrs) (v ∷ vs) h = (scalar_of_form a.kind v h.0, make_fields attrs vs h.1)

  rel_fits : (n : ℕ) (ks : List Kind) (vs : List Value) → AllHave rels (replicate n (of_tuple ks)) vs → all_meet (replicate n a_tuple) vs ≡ true
  rel_fits zero ks [] h = refl
  rel_fits zero ks (v ∷ vs) h = absurd h
  rel_fits (suc n) ks [] h = absurd h
  rel_fits (suc n) ks (v ∷ vs) h = and_from (meets a_tuple v) (all_meet (replicate n a_tuple) vs) (meets_form (of_tuple ks) v h.0) (rel_fits n ks vs h.1)

  row_of_form : (ks : List Kind) (v : Value) → HasForm rels (of_tuple ks) v → IsRowOf ks (row_in v)
  row_of_form ks (scalar s) h = absurd h
  row_of_form ks (tuple r) h = h
  row_of_form ks (table rows) h = absurd h
  row_of_form ks (delta d) h = absurd h

  rel_rows : (n : ℕ) (ks : List Kind) (vs : List Value) → AllHave rels (replicate n (of_tuple ks)) vs → AreRowsOf ks (map row_in vs)
  rel_rows zero ks [] h = tt
  rel_rows zero ks (v ∷ vs) h = absurd h
  rel_rows (suc n) ks [] h = absurd h
  rel_rows (suc n) ks (v ∷ vs) h = (row_of_form ks v h.0, rel_rows n ks vs h.1)

  end_has : (k : Kind) (F : List Scalar → Scalar) (ss : List Scalar) → (0 < length ss → IsOfKind k (F ss)) → AnswerHas rels (of_scalar k) (end_of_fields F ss)
  end_has k F [] h = tt
  end_has k F (s ∷ ss) h = h (omega arith)

  read_has : (r : ℕ) (test : Atom → Bool) (d : Delta) → IsDeltaIn rels d → AnswerHas rels (of_table (kinds_of (schema_of rels r))) (read_delta (λ xs. filter test xs) r d)
  read_has r test fail h = tt
  read_has r test (atoms xs) h = named_table rels r test xs h

  group_has : (schema : List Attr) (by : List ℕ) (aggs : List Agg) (rows : List Row) → is_good_op (Group schema by aggs) ≡ true → IsTableOf (kinds_of schema) rows →
      AnswerHas rels (of_table (group_kinds schema by aggs)) (given (Group schema by aggs) (table rows ∷ []))
  group_has schema by aggs rows good h = choose (is_few rows && are_sums_in_range schema by aggs rows) refl
    where
      choose : (b : Bool) → (is_few rows && are_sums_in_range schema by aggs rows) ≡ b → AnswerHas rels (of_table (group_kinds schema by aggs)) (cond b (gives (table (group_of schema by aggs rows))) (refuses Overflow))
      choose true e =
          let k = and_parts (is_few rows) (are_sums_in_range schema by aggs rows) e in
          let g = and_parts (list_all (is_place schema) by) (list_all (is_good_agg schema) aggs) good in
          table_normal (group_kinds schema by aggs) (map (group_row schema by aggs rows) (project_of schema by rows))
          (group_rows schema by aggs rows h.rows_are k.0 g.0 g.1 k.1 (rows_normal (project_kinds schema by) (map (at_places schema by) rows) (projected_rows schema by rows g.0 h.rows_are)))
      choose false e = tt

  sum_has : (schema : List Attr) (i : ℕ) (rows : List Row) → AnswerHas rels int_form (given (Sum schema i) (table rows ∷ []))
  sum_has schema i rows = choose (is_few rows)
    where
      choose : (b : Bool) → AnswerHas rels int_form (cond b (in_range (sum_of schema i rows)) (refuses Overflow))
      choose true = in_range_has (sum_of schema i rows)
      choose false = tt

  pub prim_has : (op : Op) (fs : List Form) (f : Form) (vs : List Value) → OpForms rels op fs f → is_good_op op ≡ true → AllHave rels fs vs → (fits_of op vs ≡ true) × AnswerHas rels f (given op vs)
  prim_has Neg fs f vs is good have = by_gives _ fs _ f Neg vs is have (λ h. one int_form vs (Fine Neg int_form) h (λ v hv. int_case v (λ v. Fine Neg int_form (v ∷ [])) hv (λ z fz. (refl, in_range_has (neg_ℤ z)))))
  prim_has Not fs f vs is good have = by_gives _ fs _ f Not vs is have (λ h. one bool_form vs (Fine Not bool_form) h (λ v hv. bool_case v (λ v. Fine Not bool_form (v ∷ [])) hv (λ b. (refl, (refl, refl)))))
  prim_has Add fs f vs is good have = by_gives _ fs _ f Add vs is have (λ h. ints vs (Fine Add int_form) h (λ a b fa fb. (refl, in_range_has (a +ℤ b))))
  prim_has Sub fs f vs is good have = by_gives _ fs _ f Sub vs is have (λ h. ints vs (Fine Sub int_form) h (λ a b fa fb. (refl, in_range_has (a -ℤ b))))
  prim_has Mul fs f vs is good have = by_gives _ fs _ f Mul vs is have (λ h. ints vs (Fine Mul int_form) h (λ a b fa fb. (refl, in_range_has (a *ℤ b))))
  prim_has Div fs f vs is good have = by_gives _ fs _ f Div vs is have (λ h. ints vs (Fine Div int_form) h (λ a b fa fb. (refl, divided_has int_div a b (λ e. quot_in a b fa e))))
  prim_has Rem fs f vs is good have = by_gives _ fs _ f Rem vs is have (λ h. ints vs (Fine Rem int_form) h (λ a b fa fb. (refl, divided_has int_rem a b (λ e. rem_in a b fa))))
  prim_has Eq fs f vs is good have = compares fs f vs (Fine Eq) is have (λ g v u hv hu. (both_like g v u hv hu, (refl, refl)))
  prim_has Ne fs f vs is good have = compares fs f vs (Fine Ne) is have (λ g v u hv hu. (both_like g v u hv hu, (refl, refl)))
  prim_has Lt fs f vs is good have = orders fs f vs (Fine Lt) is have (λ a b. (refl, (refl, refl))) (λ a b. (refl, (refl, refl)))
  prim_has Le fs f vs is good have = orders fs f vs (Fine Le) is have (λ a b. (refl, (refl, refl))) (λ a b. (refl, (refl, refl)))
  prim_has Gt fs f vs is good have = orders fs f vs (Fine Gt) is have (λ a b. (refl, (refl, refl))) (λ a b. (refl, (refl, refl)))
  prim_has Ge fs f vs is good have = orders fs f vs (Fine Ge) is have (λ a b. (refl, (refl, refl))) (λ a b. (refl, (refl, refl)))
  prim_has In fs f vs is good have =
      subst (λ f. Fine In f vs) (sym is.2) (two (of_tuple is.0) (of_table is.0) vs (Fine In bool_form) (subst (λ fs. AllHave rels fs vs) is.1 have)
      (λ v u hv hu. tuple_case is.0 v (λ v. Fine In bool_form (v ∷ u ∷ [])) hv (λ r hr. table_case is.0 u (λ u. Fine In bool_form (tuple r ∷ u ∷ [])) hu (λ rows h. (refl, (refl, refl))))))
  prim_has (Field schema i) fs f vs is good have =
      by_gives _ fs _ f (Field schema i) vs is have (λ h. a_tuple_operand (kinds_of schema) vs (Fine (Field schema i) (of_scalar (kind_at schema i))) h
      (λ r hr. (fits_schema (is_place schema i) (is_row schema r) good (row_reads schema r hr), field_has schema r i hr (ltb-true i (length schema) good))))
  prim_has (MakeRow schema) fs f vs is good have =
      by_gives _ fs _ f (MakeRow schema) vs is have (λ h. (make_fits schema vs h, record { fields = map scalar_in vs; fields_are = make_fields schema vs h; row_is = refl }))
  prim_has (MakeRel n) fs f vs is good have =
      let h = subst (λ fs. AllHave rels fs vs) is.1 have in
      subst (λ f. Fine (MakeRel n) f vs) (sym is.2) (rel_fits n is.0 vs h, table_normal is.0 (map row_in vs) (rel_rows n is.0 vs h))
  prim_has (Project schema places) fs f vs is good have =
      by_gives _ fs _ f (Project schema places) vs is.0 have (λ h. a_table_operand (kinds_of schema) vs (Fine (Project schema places) (of_table (project_kinds schema places))) h
      (λ rows hr. (
        fits_schema (list_all (is_place schema) places) (list_all (is_row schema) rows) good (rows_test schema rows hr.rows_are),
        table_normal (project_kinds schema places) (map (at_places schema places) rows) (projected_rows schema places rows good hr.rows_are),
      )))
  prim_has Union fs f vs is good have = combines fs f vs (Fine Union) is have (λ ks xs ys hx hy. (refl, table_normal ks (xs ++ ys) (rows_append ks xs ys hx.rows_are hy.rows_are)))
  prim_has Minus fs f vs is good have = combines fs f vs (Fine Minus) is have (λ ks xs ys hx hy. (refl, table_normal ks (filter (is_apart ys) xs) (rows_filter ks (is_apart ys) xs hx.rows_are)))
  prim_has Inter fs f vs is good have = combines fs f vs (Fine Inter) is have (λ ks xs ys hx hy. (refl, table_normal ks (filter (holds ys) xs) (rows_filter ks (holds ys) xs hx.rows_are)))
  prim_has (Join left right) fs f vs is good have =
      by_gives _ fs _ f (Join left right) vs is.0 have (λ h. two (of_table (kinds_of left)) (of_table (kinds_of right)) vs (Fine (Join left right) (of_table (join_kinds left right))) h
      (λ v u hv hu. table_case (kinds_of left) v (λ v. Fine (Join left right) (of_table (join_kinds left right)) (v ∷ u ∷ [])) hv
      (λ xs hx. table_case (kinds_of right) u (λ u. Fine (Join left right) (of_table (join_kinds left right)) (table xs ∷ u ∷ [])) hu
      (λ ys hy. (
        and_from (is_good_op (Join left right)) (list_all (is_row left) xs && (list_all (is_row right) ys && true)) good (fits_schema (list_all (is_row left) xs) (list_all (is_row right) ys) (rows_test left xs hx.rows_are) (rows_test right ys hy.rows_are)),
        table_normal (join_kinds left right) (map (joined left right) (filter (agree left right) (pairs xs ys))) (joined_rows left right xs ys is.1 hx.rows_are hy.rows_are),
      )))))
  prim_has (Group schema by aggs) fs f vs is good have =
      by_gives _ fs _ f (Group schema by aggs) vs is.0 have (λ h. a_table_operand (kinds_of schema) vs (Fine (Group schema by aggs) (of_table (group_kinds schema by aggs))) h
      (λ rows hr. (fits_schema (is_good_op (Group schema by aggs)) (list_all (is_row schema) rows) good (rows_test schema rows hr.rows_are), group_has schema by aggs rows good hr)))
  prim_has Count fs f vs is good have =
      subst (λ f. Fine Count f vs) (sym is.2) (a_table_operand is.0 vs (Fine Count int_form) (subst (λ fs. AllHave rels fs vs) is.1 have) (λ rows h. (refl, in_range_has (pos (length rows)))))
  prim_has Empty fs f vs is good have =
      subst (λ f. Fine Empty f vs) (sym is.2) (a_table_operand is.0 vs (Fine Empty bool_form) (subst (λ fs. AllHave rels fs vs) is.1 have) (λ rows h. (refl, (refl, refl))))
  prim_has (Sum schema i) fs f vs is good have =
      by_gives _ fs _ f (Sum schema i) vs is have (λ h. a_table_operand (kinds_of schema) vs (Fine (Sum schema i) int_form) h
      (λ rows hr. (fits_schema (is_good_op (Sum schema i)) (list_all (is_row schema) rows) good (rows_test schema rows hr.rows_are), sum_has schema i rows)))
  prim_has (Min schema i) fs f vs is good have =
      by_gives _ fs _ f (Min schema i) vs is have (λ h. a_table_operand (kinds_of schema) vs (Fine (Min schema i) (of_scalar (kind_at schema i))) h
      (λ rows hr. (
        fits_schema (is_place schema i) (list_all (is_row schema) rows) good (rows_test schema rows hr.rows_are),
        end_has (kind_at schema i) least_scalar (column schema i rows) (λ lt. least_of_kind (kind_at schema i) (column schema i rows) lt (column_kinds schema i rows good hr.rows_are)),
      )))
  prim_has (Max schema i) fs f vs is good have =
      by_gives _ fs _ f (Max schema i) vs is have (λ h. a_table_operand (kinds_of schema) vs (Fine (Max schema i) (of_scalar (kind_at schema i))) h
      (λ rows hr. (
        fits_schema (is_place schema i) (list_all (is_row schema) rows) good (rows_test schema rows hr.rows_are),
        end_has (kind_at schema i) greatest_scalar (column schema i rows) (λ lt. greatest_of_kind (kind_at schema i) (column schema i rows) lt (column_kinds schema i rows good hr.rows_are)),
      )))
  prim_has (atom_op sign r) fs f vs is good have =
      by_gives _ fs _ f (atom_op sign r) vs is.0 have (λ h. a_tuple_operand (kinds_of (schema_of rels r.0)) vs (Fine (atom_op sign r) of_delta) h
      (λ q hq. (refl, record { ascending = (tt, tt); atoms_are = (record { known = is.1; row_is = hq }, tt) })))
  prim_has (Bulk sign r) fs f vs is good have =
      by_gives _ fs _ f (Bulk sign r) vs is.0 have (λ h. a_table_operand (kinds_of (schema_of rels r.0)) vs (Fine (Bulk sign r) of_delta) h (λ rows hr. (refl, bulk_in rels sign r.0 rows is.1 hr)))
  prim_has (Ins r) fs f vs is good have =
      by_gives _ fs _ f (Ins r) vs is.0 have (λ h. a_delta_operand vs (Fine (Ins r) (of_table (kinds_of (schema_of rels r.0)))) h (λ d hd. (refl, read_has r.0 (λ (a : Atom). is_plus a.sign) d hd)))
  prim_has (Del r) fs f vs is good have =
      by_gives _ fs _ f (Del r) vs is.0 have (λ h. a_delta_operand vs (Fine (Del r) (of_table (kinds_of (schema_of rels r.0)))) h (λ d hd. (refl, read_has r.0 (λ (a : Atom). not (is_plus a.sign)) d hd)))
  prim_has IsFail fs f vs is good have = by_gives _ fs _ f IsFail vs is have (λ h. a_delta_operand vs (Fine IsFail bool_form) h (λ d hd. (refl, (refl, refl))))
  prim_has Smash fs f vs is good have = by_gives _ fs _ f Smash vs is have (λ h. deltas vs (Fine Smash of_delta) h (λ d e hd he. (refl, smash_in rels d e hd he)))
  prim_has Merge fs f vs is good have = by_gives _ fs _ f Merge vs is have (λ h. deltas vs (Fine Merge of_delta) h (λ d e hd he. (refl, merge_in rels d e hd he)))

  -- ---- printed values

  pub shape_test : (shape : Shape) (v : Value) → HasForm rels (form_of shape) v → has_shape rels shape v ≡ true
  shape_test int_shape v h = int_case v (λ v. has_shape rels int_shape v ≡ true) h (λ z fz. refl)
  shape_test bool_shape v h = bool_case v (λ v. has_shape rels bool_shape v ≡ true) h (λ b. refl)
  shape_test text_shape v h = text_case v (λ v. has_shape rels text_shape v ≡ true) h (λ t. refl)
  shape_test (Tuple schema) v h = tuple_case (kinds_of schema) v (λ v. has_shape rels (Tuple schema) v ≡ true) h (λ r hr. row_reads schema r hr)
  shape_test (Rel schema) v h = table_case (kinds_of schema) v (λ v. has_shape rels (Rel schema) v ≡ true) h (λ rows hr. rows_test schema rows hr.rows_are)
  shape_test delta_shape v h = delta_case v (λ v. has_shape rels delta_shape v ≡ true) h (λ d hd. delta_test rels d hd)

-- ---- hosts

spec_at : (hosts : Hosts) (h : ℕ) (spec : HostSpec) → AllByRecursion (λ spec. is_spec spec ≡ true) hosts → host_at hosts h ≡ Some spec → is_spec spec ≡ true
spec_at [] h spec all e = cc
spec_at (s ∷ hosts) zero spec all e = let some_is : s ≡ spec = cc in subst (λ s. is_spec s ≡ true) some_is all.0
spec_at (s ∷ hosts) (suc h) spec all e = spec_at hosts h spec all.1 e

host_has : (rels : List RelDecl) (spec : HostSpec) (s : Scalar) → is_spec spec ≡ true → IsOfKind (host_takes spec) s → HasForm rels (of_scalar (host_gives spec)) (answer_value (host_of spec s))
host_has rels (Band lo hi) s ok h = (refl, refl)
host_has rels (Bucket width) (int_scalar z) ok h = (refl, floor_in width z h.1)
host_has rels (Bucket width) (bool_scalar b) ok h = absurd (false≢true h.0)
host_has rels (Bucket width) (text_scalar t) ok h = absurd (false≢true h.0)
host_has rels (Prefix text) s ok h = (refl, refl)
host_has rels (Clamp lo hi) (int_scalar z) ok h = let k = and_parts (fits_int lo) (fits_int hi) ok in (refl, clamp_in z lo hi h.1 k.0 k.1)
host_has rels (Clamp lo hi) (bool_scalar b) ok h = absurd (false≢true h.0)
host_has rels (Clamp lo hi) (text_scalar t) ok h = absurd (false≢true h.0)

pub all_facts : (rels : List RelDecl) (hosts : Hosts) → All (λ spec. is_spec spec ≡ true) hosts → Facts rels hosts
all_facts rels hosts specs = record {
  prims = λ op fs f vs is have. prim_has rels op fs f vs is.forms is.good have;
  answers = λ h spec s e kind. host_has rels spec s (spec_at hosts h spec (recursion_from_All (λ spec. is_spec spec ≡ true) hosts specs) e) kind;
  shapes = shape_test rels;
  deltas = delta_test rels;
  applied = λ s xs h g. state_in rels s xs h g;
  joint = λ s xs ys h g k. apply_of-smash_of s (atoms xs) (atoms ys) refl refl;
  smashed = λ xs ys h g. smash_in rels (atoms xs) (atoms ys) h g;
  nothing = nothing_in rels;
}
