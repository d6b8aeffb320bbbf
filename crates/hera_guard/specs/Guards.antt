-- Guards of rows, and the rows that break them.
use Rattle.std.specs.Prelude.{◌≡◌, ◌<◌, ℕ, suc, Bool, false, cond, not, ◌&&◌, List, [], ◌∷◌, ◌++◌, Option, None, Some, length, nat_eq, All}
use Rattle.std.specs.List.{flat_map}
use Rattle.hera_sets.specs.Rows.{Row}
use Rattle.hera_meaning.specs.declared.scalars.Kind.TheVariants.{Bool as bool_kind}
use Rattle.hera_meaning.specs.declared.scalars.Scalar.{Scalar}
use Rattle.hera_meaning.specs.declared.schemas.Attr.{Attr}
use Rattle.hera_meaning.specs.declared.schemas.RelDecl.{RelDecl}
use Rattle.hera_meaning.specs.declared.hosts.HostSpec.{HostSpec}
use Rattle.hera_meaning.specs.declared.hosts.HostAnswer.{HostAnswer}
use Rattle.hera_meaning.specs.declared.hosts.HostAnswer.TheVariants.{Int as int_answer, Bool as bool_answer}
use Rattle.hera_meaning.specs.Rows.{IsRow, field_at}
use Rattle.hera_meaning.specs.Forms.{kind_at}
use Rattle.hera_meaning.specs.Hosts.{Hosts, host_of, host_at}
use Rattle.hera_meaning.specs.Deltas.{Atom, Delta, State, schema_of, plus_atoms, rows_named}
use Rattle.delta_atoms.specs.Atoms.{atoms_in}
use Rattle.hera_host.specs.Tables.{Host, takes_at, gives_at}
use Rattle.hera_guard.specs.declared.table.Guard.{Guard}
use Rattle.hera_guard.specs.declared.table.Break.{Break}

-- ---- which guards there may be

-- the place is there, and the host is in the table, answers a bool and takes the attribute's kind
pub record Suits (schema : List Attr) (hosts : List Host) (g : Guard) : Type 0 where
  pub place : g.place < length schema
  pub host : g.host < length hosts
  pub answer : gives_at hosts g.host ≡ bool_kind
  pub argument : takes_at hosts g.host ≡ kind_at schema g.place

-- the relation is one of the catalogue, and the guard suits its schema
pub record IsGuard (rels : List RelDecl) (hosts : List Host) (g : Guard) : Type 0 where
  pub relation : g.rel.0 < length rels
  pub suits : Suits (schema_of rels g.rel.0) hosts g

abbrev pub AreGuards : List RelDecl → List Host → List Guard → Type 0
AreGuards rels hosts guards = All (IsGuard rels hosts) guards

-- ---- the rows that break them

abbrev pub is_no : HostAnswer → Bool
is_no (bool_answer b) = not b
is_no (int_answer v) = false

-- the host answers false for the scalar
abbrev pub refuses : Option HostSpec → Scalar → Bool
refuses None s = false
refuses (Some spec) s = is_no (host_of spec s)

-- the guard is one of relation r, and its host answers false for the attribute of the row
abbrev pub is_broken : Hosts → List Attr → ℕ → Row → Guard → Bool
is_broken hosts schema r row g = nat_eq g.rel.0 r && refuses (host_at hosts g.host) (field_at schema row g.place)

-- the row of relation r breaks the guard of number n
abbrev pub broken : ℕ → ℕ → Row → Break
broken n r row = record { guard = n; rel = record { 0 = r }; row = row }

-- the guards that a row of relation r breaks, in their order; the first guard has number n
abbrev pub row_breaks : Hosts → List Attr → ℕ → Row → ℕ → List Guard → List Break
row_breaks hosts schema r row n [] = []
row_breaks hosts schema r row n (g ∷ guards) =
    cond (is_broken hosts schema r row g) (broken n r row ∷ row_breaks hosts schema r row (suc n) guards) (row_breaks hosts schema r row (suc n) guards)

-- row after row of a relation
abbrev pub rows_breaks : Hosts → List Guard → List Attr → ℕ → List Row → List Break
rows_breaks hosts guards schema r rows = flat_map (λ row. row_breaks hosts schema r row 0 guards) rows

-- relation after relation, from number r on
abbrev pub breaks_from : Hosts → List Guard → ℕ → List RelDecl → State → List Break
breaks_from hosts guards r (d ∷ rels) (rows ∷ s) = rows_breaks hosts guards d.schema r rows ++ breaks_from hosts guards (suc r) rels s
breaks_from hosts guards r _ _ = []

-- every relation, row and guard of a state that the row breaks, in order of relation, then row, then guard
abbrev pub breaks : Hosts → List Guard → List RelDecl → State → List Break
breaks hosts guards rels s = breaks_from hosts guards 0 rels s

abbrev pub first : {A : Type 0} → List A → Option A
first [] = None
first (x ∷ xs) = Some x

-- it is a row of a relation of the catalogue, and breaks one of the guards
pub record IsBreakOf (rels : List RelDecl) (guards : List Guard) (b : Break) : Type 0 where
  pub relation : b.rel.0 < length rels
  pub row : IsRow (schema_of rels b.rel.0) b.row
  pub guard : b.guard < length guards

-- ---- the rows that a delta puts in

abbrev pub added_from : ℕ → List RelDecl → List Atom → State
added_from r [] xs = []
added_from r (d ∷ rels) xs = rows_named r (plus_atoms xs) ∷ added_from (suc r) rels xs

-- for each relation the delta's plus rows, and of `fail` none
abbrev pub added_of : List RelDecl → Delta → State
added_of rels d = added_from 0 rels (atoms_in d)
