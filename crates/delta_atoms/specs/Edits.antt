-- What changes of parts do to the rows of each relation.
use Rattle.std.specs.Prelude.{ℕ, suc, ◌≡◌, ◌<◌, ◌≤◌, Bool, true, false, cond, ◌&&◌, ◌||◌, not, List, [], ◌∷◌, ◌++◌, length, take, drop, Option, None, Some, nat_eq, filter}
use Rattle.std.specs.List.{list_any}
use Rattle.hera_sets.specs.Rows.{Row, is_same, put, without, holds}
use Rattle.hera_meaning.specs.declared.scalars.Sign.{Sign}
use Rattle.hera_meaning.specs.declared.scalars.Sign.TheVariants.{Plus, Minus}
use Rattle.hera_meaning.specs.Deltas.{Atom, key_of}
use Rattle.hera_meaning.specs.Values.{same_sign}
use Rattle.delta_atoms.specs.declared.parts.DeltaPart.{DeltaPart}
use Rattle.delta_atoms.specs.Atoms.{sign_at}
use Rattle.delta_atoms.specs.Parts.{rows_at, IsBeforeAll}

-- the part with a row more on one side, and with a row less
abbrev pub put_in : Sign → Row → DeltaPart → DeltaPart
put_in Plus r p = record { rel = p.rel; plus = put r p.plus; minus = p.minus }
put_in Minus r p = record { rel = p.rel; plus = p.plus; minus = put r p.minus }

abbrev pub taken_out : Sign → Row → DeltaPart → DeltaPart
taken_out Plus r p = record { rel = p.rel; plus = without r p.plus; minus = p.minus }
taken_out Minus r p = record { rel = p.rel; plus = p.plus; minus = without r p.minus }

-- one side alone
abbrev pub one_side : Sign → ℕ → List Row → DeltaPart
one_side Plus n rows = record { rel = record { 0 = n }; plus = rows; minus = [] }
one_side Minus n rows = record { rel = record { 0 = n }; plus = []; minus = rows }

-- each relation stands before n
abbrev pub IsUpto : ℕ → List DeltaPart → Type 0
IsUpto n [] = Unit {0}
IsUpto n (p ∷ ps) = (p.rel.0 < n) × IsUpto n ps

-- relation n is at place i
pub record IsAt (ps : List DeltaPart) (n i : ℕ) : Type 0 where
  pub part : DeltaPart
  pub within : i < length ps
  pub split : ps ≡ take i ps ++ part ∷ drop (suc i) ps
  pub rel : part.rel.0 ≡ n

-- relation n is not there, and would be at place i
pub record IsGap (ps : List DeltaPart) (n i : ℕ) : Type 0 where
  pub within : i ≤ length ps
  pub front : IsUpto n (take i ps)
  pub rest : IsBeforeAll n (drop i ps)

-- the same rows of each relation
abbrev pub HaveSame : List DeltaPart → List DeltaPart → Type 0
HaveSame old new = (s : Sign) (n : ℕ) → rows_at s n new ≡ rows_at s n old

-- this is the side that the atom speaks of
abbrev pub is_of : Atom → Sign → ℕ → Bool
is_of a s n = same_sign s a.sign && nat_eq n a.rel

-- the atom's row is put in, and all else stays
abbrev pub Puts : Atom → List DeltaPart → List DeltaPart → Type 0
Puts a old new = (s : Sign) (n : ℕ) → rows_at s n new ≡ cond (is_of a s n) (put a.row (rows_at s n old)) (rows_at s n old)

-- the atom's row is taken out, and all else stays
abbrev pub Takes : Atom → List DeltaPart → List DeltaPart → Type 0
Takes a old new = (s : Sign) (n : ℕ) → rows_at s n new ≡ cond (is_of a s n) (without a.row (rows_at s n old)) (rows_at s n old)

-- this is the sign
abbrev pub gives : Option Sign → Sign → Bool
gives None s = false
gives (Some t) s = same_sign s t

-- the atom has this sign, relation and row
abbrev pub is_atom : Sign → ℕ → Row → Atom → Bool
is_atom s n r a = same_sign s a.sign && is_same (n ∷ r) (key_of a)

-- an atom of the list has them
abbrev pub stands : List Atom → Sign → ℕ → Row → Bool
stands xs s n r = list_any (is_atom s n r) xs

abbrev pub turned : Bool → Sign → Sign
turned false s = s
turned true Plus = Minus
turned true Minus = Plus

-- the rows of the atoms are put in
abbrev pub PutsAll : List Atom → List DeltaPart → List DeltaPart → Type 0
PutsAll xs old new = (s : Sign) (n : ℕ) (r : Row) → holds (rows_at s n new) r ≡ (stands xs s n r || holds (rows_at s n old) r)

-- other rows than those of the atoms stay
abbrev pub PutsSome : List Atom → List DeltaPart → List DeltaPart → Type 0
PutsSome xs old new = (s : Sign) (n : ℕ) (r : Row) → stands xs s n r ≡ false → holds (rows_at s n new) r ≡ holds (rows_at s n old) r

-- the rows that the atoms have, or have with the other sign, are taken out
abbrev pub TakesAll : Bool → List Atom → List DeltaPart → List DeltaPart → Type 0
TakesAll turn xs old new = (s : Sign) (n : ℕ) (r : Row) → holds (rows_at s n new) r ≡ (not (stands xs (turned turn s) n r) && holds (rows_at s n old) r)

-- the atoms of the second list that the first does not have with their sign
abbrev pub news : List Atom → List Atom → List Atom
news xs ys = filter (λ a. not (gives (sign_at xs (key_of a)) a.sign)) ys
