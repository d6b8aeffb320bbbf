-- Operands that are relations.
use Rattle.std.proofs.Common.{◌≡◌, ℕ, zero, suc, Bool, true, false, cond, not, ◌&&◌, List, [], ◌∷◌, map, refl, ap, ◌∙◌, sym, pos}
use Rattle.std.specs.Prelude.{replicate}
use Rattle.std.specs.List.{list_all}
use Rattle.std.proofs.lemmas.Bool.{and_parts}
use Rattle.hera_sets.specs.Rows.{Row}
use Rattle.hera_meaning.specs.declared.trees.Op.{Op}
use Rattle.hera_meaning.specs.declared.trees.Op.TheVariants as ops
use Rattle.hera_meaning.specs.declared.scalars.Kind.TheVariants.{Int as int_kind, Text as text_kind}
use Rattle.hera_meaning.specs.declared.schemas.Attr.{Attr}
use Rattle.hera_meaning.specs.Scalars.{is_kind}
use Rattle.hera_meaning.specs.Values.{Value, table, int_value, scalar_in, rows_in, operand}
use Rattle.hera_meaning.specs.Fits.{Want, a_scalar, a_tuple, a_table, a_table_of, meets, all_meet, wants, in_kind_order, is_good_op, fits_of}
use Rattle.hera_meaning.proofs.Bools.{and_false}
use Rattle.hera_meaning.specs.Primitives.{gives, given, prim_of}
use Rattle.hera_fits.specs.Tables.{asks_relations, is_relational, takes_relations, tables}

-- the want is one of relations
abbrev wants_rows : Want → Bool
wants_rows a_table = true
wants_rows (a_table_of schema) = true
wants_rows _ = false

met_rows : (w : Want) (v : Value) → wants_rows w ≡ true → meets w v ≡ true → v ≡ table (rows_in v)
met_rows a_table (table xs) w h = refl
met_rows (a_table_of schema) (table xs) w h = refl
met_rows w v r h = cc

one_table : (w : Want) (vs : List Value) → wants_rows w ≡ true → all_meet (w ∷ []) vs ≡ true → vs ≡ table (rows_in (operand vs 0)) ∷ []
one_table w [] r h = cc
one_table w (v ∷ []) r h = ap (λ x. x ∷ []) (met_rows w v r (and_parts (meets w v) true h).0)
one_table w (v ∷ x ∷ vs) r h = cc (sym (and_false (meets w v)) ∙ h)

two_tables : (w u : Want) (vs : List Value) → wants_rows w ≡ true → wants_rows u ≡ true → all_meet (w ∷ u ∷ []) vs ≡ true →
    vs ≡ table (rows_in (operand vs 0)) ∷ table (rows_in (operand vs 1)) ∷ []
two_tables w u [] r s h = cc
two_tables w u (v ∷ []) r s h = cc (sym (and_false (meets w v)) ∙ h)
two_tables w u (v ∷ x ∷ []) r s h =
    let parts = and_parts (meets w v) (meets u x && true) h in
    ap (λ y. y ∷ x ∷ []) (met_rows w v r parts.0) ∙ ap (λ y. table (rows_in v) ∷ y ∷ []) (met_rows u x s (and_parts (meets u x) true parts.1).0)
two_tables w u (v ∷ x ∷ y ∷ vs) r s h = cc (sym (and_false (meets u x)) ∙ (and_parts (meets w v) _ h).1)

-- the operands of an operation that asks for relations are the relations that it takes
pub held_tables : (op : Op) (vs : List Value) → asks_relations op ≡ true → fits_of op vs ≡ true → vs ≡ tables op (rows_in (operand vs 0)) (rows_in (operand vs 1))
held_tables (ops.Project schema places) vs a h = one_table (a_table_of schema) vs refl (and_parts (is_good_op (ops.Project schema places)) _ h).1
held_tables ops.Union vs a h = two_tables a_table a_table vs refl refl h
held_tables ops.Minus vs a h = two_tables a_table a_table vs refl refl h
held_tables ops.Inter vs a h = two_tables a_table a_table vs refl refl h
held_tables (ops.Join left right) vs a h = two_tables (a_table_of left) (a_table_of right) vs refl refl (and_parts (is_good_op (ops.Join left right)) _ h).1
held_tables (ops.Group schema by aggs) vs a h = one_table (a_table_of schema) vs refl (and_parts (is_good_op (ops.Group schema by aggs)) _ h).1
held_tables ops.Count vs a h = one_table a_table vs refl h
held_tables ops.Empty vs a h = one_table a_table vs refl h
held_tables (ops.Sum schema i) vs a h = one_table (a_table_of schema) vs refl (and_parts (is_good_op (ops.Sum schema i)) _ h).1
held_tables (ops.Min schema i) vs a h = one_table (a_table_of schema) vs refl (and_parts (is_good_op (ops.Min schema i)) _ h).1
held_tables (ops.Max schema i) vs a h = one_table (a_table_of schema) vs refl (and_parts (is_good_op (ops.Max schema i)) _ h).1
held_tables op vs a h = cc

pub asks_relational : (op : Op) → asks_relations op ≡ true → is_relational op ≡ true
asks_relational ops.Eq a = refl
asks_relational ops.Ne a = refl
asks_relational op a = a

-- ---- a relation among the operands

table_unmet : (w : Want) (xs : List Row) → not (wants_rows w) ≡ true → meets w (table xs) ≡ false
table_unmet a_table xs r = cc
table_unmet (a_table_of schema) xs r = cc
table_unmet w xs r = refl

unmet : (ws : List Want) (vs : List Value) (i : ℕ) (xs : List Row) → list_all (λ w. not (wants_rows w)) ws ≡ true → operand vs i ≡ table xs → all_meet ws vs ≡ false
unmet [] [] i xs r e = cc
unmet [] (v ∷ vs) i xs r e = refl
unmet (w ∷ ws) [] i xs r e = refl
unmet (w ∷ ws) (v ∷ vs) zero xs r e =
    ap (λ y. meets w y && all_meet ws vs) e ∙ ap (λ b. b && all_meet ws vs) (table_unmet w xs (and_parts (not (wants_rows w)) _ r).0)
unmet (w ∷ ws) (v ∷ vs) (suc i) xs r e = ap (λ b. meets w v && b) (unmet ws vs i xs (and_parts (not (wants_rows w)) _ r).1 e) ∙ and_false (meets w v)

fields_no_rows : (schema : List Attr) → list_all (λ w. not (wants_rows w)) (map (λ (a : Attr). a_scalar a.kind) schema) ≡ true
fields_no_rows [] = refl
fields_no_rows (a ∷ schema) = fields_no_rows schema

tuples_no_rows : (n : ℕ) → list_all (λ w. not (wants_rows w)) (replicate n a_tuple) ≡ true
tuples_no_rows zero = refl
tuples_no_rows (suc n) = tuples_no_rows n

order_no_rows : (v : Value) → list_all (λ w. not (wants_rows w)) (in_kind_order v ∷ in_kind_order v ∷ []) ≡ true
order_no_rows v = elim (is_kind text_kind (scalar_in v)) as (λ b. list_all (λ w. not (wants_rows w)) (cond b (a_scalar text_kind) (a_scalar int_kind) ∷ cond b (a_scalar text_kind) (a_scalar int_kind) ∷ []) ≡ true) [
  | true ↦ refl
  | false ↦ refl
]

no_rows : (op : Op) (v : Value) → takes_relations op ≡ false → list_all (λ w. not (wants_rows w)) (wants op v) ≡ true
no_rows ops.Lt v t = order_no_rows v
no_rows ops.Le v t = order_no_rows v
no_rows ops.Gt v t = order_no_rows v
no_rows ops.Ge v t = order_no_rows v
no_rows (ops.MakeRow schema) v t = fields_no_rows schema
no_rows (ops.MakeRel n) v t = tuples_no_rows n
no_rows op v t = cc

-- an operation that takes no relation does not fit where an operand is one
pub no_relation : (op : Op) (vs : List Value) (i : ℕ) (xs : List Row) → takes_relations op ≡ false → operand vs i ≡ table xs → fits_of op vs ≡ false
no_relation op vs i xs t e =
    ap (λ b. is_good_op op && b) (unmet (wants op (operand vs 0)) vs i xs (no_rows op (operand vs 0) t) e) ∙ and_false (is_good_op op)

pub fitting_given : (op : Op) (vs : List Value) → fits_of op vs ≡ true → prim_of op vs ≡ given op vs
fitting_given op vs h = ap (λ b. cond b (given op vs) (gives (int_value (pos 0)))) h
