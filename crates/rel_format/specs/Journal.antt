-- The journal behind the pages, and what a half is.
use Rattle.std.specs.Prelude.{◌≡◌, ◌≢◌, ◌≤◌, ℕ, List, ◌∷◌, ◌++◌, length, map, All}
use Rattle.std.specs.List.{flat_map}
use Rattle.std.specs.Int.{to_be_bytes, w16, w32}
use Rattle.hera_meaning.specs.declared.scalars.Sign.{Sign}
use Rattle.hera_meaning.specs.declared.scalars.Sign.TheVariants.{Plus, Minus}
use Rattle.hera_meaning.specs.declared.schemas.RelDecl.{RelDecl}
use Rattle.hera_meaning.specs.Catalogues.{IsCatalogue}
use Rattle.hera_meaning.specs.Commits.{after_all}
use Rattle.hera_meaning.specs.Deltas.{State, IsState, Atom, atoms, IsDelta, IsDeltaOf}
use Rattle.rel_format.specs.declared.version.TheConstants.{HALF_LIMIT}
use Rattle.rel_format.specs.Pages.{Format, Fit, pages_of}

abbrev pub sign_byte : Sign → ℕ
sign_byte Plus = 1
sign_byte Minus = 2

abbrev pub atom_bytes : Atom → List ℕ
atom_bytes a = sign_byte a.sign ∷ (to_be_bytes w16 a.rel ++ a.row)

-- a record without its next gate
abbrev pub record_of : List Atom → List ℕ
record_of xs = to_be_bytes w32 (length xs) ++ flat_map atom_bytes xs

abbrev pub sealed : List Atom → List ℕ
sealed xs = 1 ∷ record_of xs

pub record IsRecordOf (rels : List RelDecl) (xs : List Atom) : Type 0 where
  pub few : length xs ≤ 4294967295
  pub delta : IsDelta (atoms xs)
  pub known : IsDeltaOf rels (atoms xs)

abbrev pub half_limit : ℕ
half_limit = HALF_LIMIT

-- the bytes are a half with this catalogue and state
pub record IsHalf (f : Format) (bytes : List ℕ) (rels : List RelDecl) (state : State) : Type 0 where
  pub short : length bytes ≤ half_limit
  pub catalogue : IsCatalogue rels
  pub paged : State
  pub valid : IsState rels paged
  pub fit : Fit f.page paged
  pub deltas : List (List Atom)
  pub records : All (IsRecordOf rels) deltas
  pub gate : ℕ
  pub closed : gate ≢ 1
  pub rest : List ℕ
  pub printed : bytes ≡ pages_of f rels paged ++ flat_map sealed deltas ++ gate ∷ rest
  pub behind : state ≡ after_all paged (map atoms deltas)
