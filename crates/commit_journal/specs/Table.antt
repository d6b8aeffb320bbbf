-- The fields of a journal, one after another: how many bytes the next one has, and what comes behind it.
use Rattle.std.specs.Prelude.{ℕ, zero, suc, ◌==◌, ◌&&◌, Bool, true, false, cond, nat_le, nat_lt, List, [], ◌∷◌, ◌++◌, Option, None, Some, length}
use Rattle.std.specs.Option.{option_and_then}
use Rattle.std.specs.Int.{w16, w32}
use Rattle.hera_sets.specs.Rows.{Row, is_below}
use Rattle.hera_meaning.specs.declared.scalars.Sign.{Sign}
use Rattle.hera_meaning.specs.declared.scalars.Sign.TheVariants.{Plus, Minus}
use Rattle.hera_meaning.specs.declared.schemas.Attr.{Attr}
use Rattle.hera_meaning.specs.declared.schemas.RelDecl.{RelDecl}
use Rattle.hera_meaning.specs.Deltas.{Atom, schema_of}
use Rattle.rel_format.specs.Fields.{kept, number, first_byte, first_row}

-- ---- the values of single fields

abbrev pub sign_of : ℕ → Option Sign
sign_of n = cond (n == 1) (Some Plus) (cond (n == 2) (Some Minus) None)

abbrev pub sign_field : List ℕ → Option Sign
sign_field bytes = option_and_then sign_of (first_byte bytes)

-- a relation, not below the previous atom's
abbrev pub follows : Option Atom → ℕ → Bool
follows None rel = true
follows (Some a) rel = nat_le a.rel rel

-- an atom's relation, of so many
abbrev pub rel_field : ℕ → Option Atom → List ℕ → Option ℕ
rel_field count before bytes = kept (λ rel. nat_lt rel count && follows before rel) (number w16 bytes)

-- a row, greater than the previous atom's where the relation is the same
abbrev pub row_keeps : Option Atom → ℕ → Row → Bool
row_keeps None rel r = true
row_keeps (Some a) rel r = cond (a.rel == rel) (is_below a.row r) true

-- the row of an atom, of the schema of its relation
abbrev pub row_field : List Attr → Option Atom → ℕ → List ℕ → Option Row
row_field schema before rel bytes = kept (row_keeps before rel) (first_row schema bytes)

-- ---- what was read

-- a record of which some atoms are read, behind the atoms of each record before it
pub record Opened : Type 0 where
  pub before : List (List Atom)
  pub atoms : List Atom

-- the records so far, and with them which field comes next
pub data JournalStand : Type 0 where
  at_gate : List (List Atom) → JournalStand
  at_atom_count : List (List Atom) → JournalStand
  -- an atom, and so many behind it: its sign, its relation, its row
  at_sign : Opened → ℕ → JournalStand
  at_rel : Opened → ℕ → Sign → JournalStand
  at_row : Opened → ℕ → Sign → ℕ → JournalStand
  -- behind a gate of this byte, which is not open
  at_end : List (List Atom) → ℕ → JournalStand

abbrev pub behind_gate : List (List Atom) → ℕ → JournalStand
behind_gate records gate = cond (gate == 1) (at_atom_count records) (at_end records gate)

-- behind an atom, with so many to come
abbrev pub behind_atom : Opened → ℕ → JournalStand
behind_atom o zero = at_gate (o.before ++ o.atoms ∷ [])
behind_atom o (suc n) = at_sign o n

abbrev pub opened : List (List Atom) → List Atom → Opened
opened records xs = record { before = records; atoms = xs }

abbrev pub with_atom : Opened → Atom → Opened
with_atom o a = record { before = o.before; atoms = o.atoms ++ a ∷ [] }

abbrev pub atom_read : Sign → ℕ → Row → Atom
atom_read s rel r = record { sign = s; rel = rel; row = r }

abbrev pub last_atom : List Atom → Option Atom
last_atom [] = None
last_atom (a ∷ []) = Some a
last_atom (a ∷ b ∷ xs) = last_atom (b ∷ xs)

-- ---- the table

-- the journal is whole behind a gate that is not open
abbrev pub is_whole : JournalStand → Bool
is_whole (at_end records gate) = true
is_whole _ = false

-- a field of so many bytes, and what comes behind it
abbrev pub field : {A : Type 0} → ℕ → (A → JournalStand) → Option A → Option (ℕ × JournalStand)
field n behind None = None
field n behind (Some x) = Some (n, behind x)

-- a field as long as its value
abbrev pub long_field : (List ℕ → JournalStand) → Option (List ℕ) → Option (ℕ × JournalStand)
long_field behind None = None
long_field behind (Some x) = Some (length x, behind x)

-- the field with which the bytes begin, where it keeps its rule and lies wholly in them
abbrev pub next : List RelDecl → JournalStand → List ℕ → Option (ℕ × JournalStand)
next rels (at_gate records) bytes = field 1 (behind_gate records) (first_byte bytes)
next rels (at_atom_count records) bytes = field 4 (behind_atom (opened records [])) (number w32 bytes)
next rels (at_sign o more) bytes = field 1 (at_rel o more) (sign_field bytes)
next rels (at_rel o more s) bytes = field 2 (at_row o more s) (rel_field (length rels) (last_atom o.atoms) bytes)
next rels (at_row o more s rel) bytes = long_field (λ r. behind_atom (with_atom o (atom_read s rel r)) more) (row_field (schema_of rels rel) (last_atom o.atoms) rel bytes)
next rels (at_end records gate) bytes = None
