-- Lists of rows of some kinds, and their normal lists.
use Rattle.std.proofs.Common.{◌≡◌, ℕ, zero, suc, ◌<◌, Bool, true, false, cond, List, [], ◌∷◌, ◌++◌, length, Some, refl, arith, filter}
use Rattle.std.specs.Prelude.{slice_get}
use Rattle.hera_sets.specs.Rows.{Row, is_below, IsBelowAll, IsAscending, put, normal}
use Rattle.hera_sets.proofs.Members.{ascending_normal}
use Rattle.hera_meaning.specs.declared.scalars.Kind.{Kind}
use Rattle.hera_meaning.specs.declared.schemas.RelDecl.{RelDecl}
use Rattle.hera_meaning.specs.Deltas.{State, rows_at, schema_of}
use Rattle.hera_meaning.specs.Values.{Value, is_true}
use Rattle.hera_meaning.specs.Expressions.{chosen}
use Rattle.hera_meaning.specs.Forms.{kinds_of}
use Rattle.hera_codegen.proofs.Codec.{IsRowOf}
use Rattle.hera_codegen.proofs.HasForm.{AreRowsOf, IsTableOf, IsStateIn}

module _ (ks : List Kind) where
  rows_put : (x : Row) (xs : List Row) → IsRowOf ks x → AreRowsOf ks xs → AreRowsOf ks (put x xs)
  rows_put x [] h hs = (h, tt)
  rows_put x (y ∷ ys) h hs = by (is_below x y) (is_below y x) (rows_put x ys h hs.1)
    where
      inner : (c : Bool) → AreRowsOf ks (put x ys) → AreRowsOf ks (cond c (put x ys) ys)
      inner true ih = ih
      inner false ih = hs.1

      by : (b c : Bool) → AreRowsOf ks (put x ys) → AreRowsOf ks (cond b (x ∷ y ∷ ys) (y ∷ cond c (put x ys) ys))
      by true c ih = (h, hs)
      by false c ih = (hs.0, inner c ih)

  pub rows_normal : (xs : List Row) → AreRowsOf ks xs → AreRowsOf ks (normal xs)
  rows_normal [] h = tt
  rows_normal (x ∷ xs) h = rows_put x (normal xs) h.0 (rows_normal xs h.1)

  pub table_normal : (xs : List Row) → AreRowsOf ks xs → IsTableOf ks (normal xs)
  table_normal xs h = record { ascending = ascending_normal xs; rows_are = rows_normal xs h }

  pub rows_filter : (test : Row → Bool) (xs : List Row) → AreRowsOf ks xs → AreRowsOf ks (filter test xs)
  rows_filter test [] h = tt
  rows_filter test (x ∷ xs) h = by (test x) (rows_filter test xs h.1)
    where
      by : (b : Bool) → AreRowsOf ks (filter test xs) → AreRowsOf ks (cond b (x ∷ filter test xs) (filter test xs))
      by true ih = (h.0, ih)
      by false ih = ih

  pub rows_append : (xs ys : List Row) → AreRowsOf ks xs → AreRowsOf ks ys → AreRowsOf ks (xs ++ ys)
  rows_append [] ys h g = g
  rows_append (x ∷ xs) ys h g = (h.0, rows_append xs ys h.1 g)

  rows_chosen : (xs : List Row) (vs : List Value) → AreRowsOf ks xs → AreRowsOf ks (chosen xs vs)
  rows_chosen [] vs h = tt
  rows_chosen (x ∷ xs) [] h = tt
  rows_chosen (x ∷ xs) (v ∷ vs) h = by (is_true v) (rows_chosen xs vs h.1)
    where
      by : (b : Bool) → AreRowsOf ks (chosen xs vs) → AreRowsOf ks (cond b (x ∷ chosen xs vs) (chosen xs vs))
      by true ih = (h.0, ih)
      by false ih = ih

below_chosen : (y : Row) (xs : List Row) (vs : List Value) → IsBelowAll y xs → IsBelowAll y (chosen xs vs)
below_chosen y [] vs h = tt
below_chosen y (x ∷ xs) [] h = tt
below_chosen y (x ∷ xs) (v ∷ vs) h = by (is_true v) (below_chosen y xs vs h.1)
  where
    by : (b : Bool) → IsBelowAll y (chosen xs vs) → IsBelowAll y (cond b (x ∷ chosen xs vs) (chosen xs vs))
    by true ih = (h.0, ih)
    by false ih = ih

ascending_chosen : (xs : List Row) (vs : List Value) → IsAscending xs → IsAscending (chosen xs vs)
ascending_chosen [] vs h = tt
ascending_chosen (x ∷ xs) [] h = tt
ascending_chosen (x ∷ xs) (v ∷ vs) h = by (is_true v) (ascending_chosen xs vs h.1)
  where
    by : (b : Bool) → IsAscending (chosen xs vs) → IsAscending (cond b (x ∷ chosen xs vs) (chosen xs vs))
    by true ih = (below_chosen x xs vs h.0, ih)
    by false ih = ih

pub table_chosen : (ks : List Kind) (xs : List Row) (vs : List Value) → IsTableOf ks xs → IsTableOf ks (chosen xs vs)
table_chosen ks xs vs h = record { ascending = ascending_chosen xs vs h.ascending; rows_are = rows_chosen ks xs vs h.rows_are }

-- a relation of a state
pub record IsThere (rels : List RelDecl) (s : State) (r : ℕ) : Type 0 where
  pub there : slice_get s r ≡ Some (rows_at s r)
  pub table_is : IsTableOf (kinds_of (schema_of rels r)) (rows_at s r)

pub state_table : (rels : List RelDecl) (s : State) (r : ℕ) → IsStateIn rels s → r < length rels → IsThere rels s r
state_table [] [] r h lt = absurd (omega (arith, lt))
state_table [] (rows ∷ s) r h lt = absurd h
state_table (d ∷ rels) [] r h lt = absurd h
state_table (d ∷ rels) (rows ∷ s) zero h lt = record { there = refl; table_is = h.0 }
state_table (d ∷ rels) (rows ∷ s) (suc r) h lt = let k = state_table rels s r h.1 (omega (arith, lt)) in record { there = k.there; table_is = k.table_is }
