-- Something is found in every folder.
use Rattle.std.proofs.Common.{◌≡◌, ◌≤◌, ◌⊎◌, inl, inr, ℕ, List, [], ◌∷◌, length, refl, ap, arith}
use Rattle.std.specs.Prelude.{All}
use Rattle.std.proofs.lemmas.Bool.{cases_lt}
use Rattle.std.proofs.lemmas.List.{get_or_past}
use Rattle.hera_meaning.specs.declared.schemas.RelDecl.{RelDecl}
use Rattle.hera_meaning.specs.Deltas.{State}
use Rattle.hera_row.proofs.FieldLemmas.{AreBytes}
use Rattle.hera_volume.specs.declared.file_id.FileId.{FileId}
use Rattle.hera_volume.specs.declared.file_id.FileId.TheVariants.{Select}
use Rattle.rel_format.specs.declared.version.Version.{Version}
use Rattle.rel_format.specs.declared.version.Version.TheVariants.{One, Two}
use Rattle.rel_format.specs.Journal.{half_limit}
use Rattle.rel_format.specs.Table.{at_magic}
use Rattle.rel_format.specs.Versions.{format_of, version_in, IsHalfOf}
use Rattle.commit_journal.specs.Halves.{in_pages, next_in_half}
use Rattle.hera_store.specs.Databases.{Database, half_named, IsDamagedHalf, FilesFound, absent, spoilt, held, IsFound}
use Rattle.store_laws.specs.Bytes.{IsByte}
use Rattle.store_laws.proofs.Ends.{ends}
use Rattle.store_laws.proofs.Moves.{half_weight, all_move}
use Rattle.store_laws.proofs.Wholes.{HalfOrDamage, half_or_damage}

bytes_are : (bytes : List ℕ) → All IsByte bytes → AreBytes bytes
bytes_are bytes all i =
    elim (cases_lt i (length bytes)) [
      | inl p ↦ all i 0 p
      | inr p ↦ rw (get_or_past bytes i 0 p) (omega arith)
    ]

some_page : (v : Version) → 1 ≤ (format_of v).page
some_page One = omega arith
some_page Two = omega arith

-- ---- a file of a half

abbrev HalfFound : List ℕ → Type 0
HalfFound bytes = ((rels : List RelDecl) × (state : State) × IsHalfOf bytes rels state) ⊎ ((at : ℕ) × IsDamagedHalf bytes at)

half_found : (bytes : List ℕ) → AreBytes bytes → HalfFound bytes
half_found bytes all =
    elim (cases_lt half_limit (length bytes)) [
      | inl long ↦ inr (half_limit, inl (long, refl))
      | inr short ↦ short_found short
    ]
  where
    in_format : length bytes ≤ half_limit → HalfOrDamage (format_of (version_in bytes)) bytes → HalfFound bytes
    in_format short (inl half) = inl (half.0, half.1, (version_in bytes, half.2))
    in_format short (inr damage) = inr (damage.0, inr (short, damage.1))

    short_found : length bytes ≤ half_limit → HalfFound bytes
    short_found short =
        let f = format_of (version_in bytes) in
        let e = ends (next_in_half f) half_weight bytes (0, in_pages at_magic) (all_move f) in
        in_format short (half_or_damage f bytes e.at e.stand all (some_page (version_in bytes)) short e.reached e.last)

-- ---- the files of a folder

abbrev Found : (FileId → List ℕ) → Type 0
Found files = (found : FilesFound) × IsFound files found

named_found : (files : FileId → List ℕ) (byte : ℕ) → files Select ≡ byte ∷ [] → HalfFound (files (half_named byte)) → Found files
named_found files byte e (inl half) =
    let db : Database = record { catalogue = half.0; state = half.1 } in
    (held db, record { byte = byte; selects = e; half = half.2 })
named_found files byte e (inr damaged) = (spoilt (half_named byte) damaged.0, inr ((byte, e, refl), damaged.1))

pub every_found : (files : FileId → List ℕ) → ((file : FileId) → All IsByte (files file)) → Found files
every_found files bytes = by (files Select) refl
  where
    by : (select : List ℕ) → files Select ≡ select → Found files
    by [] e = (absent, e)
    by (byte ∷ []) e = named_found files byte e (half_found (files (half_named byte)) (bytes_are (files (half_named byte)) (bytes (half_named byte))))
    by (byte ∷ more ∷ rest) e = let size = ap (λ (l : List ℕ). length l) e in (spoilt Select 1, inl (omega (arith, size), refl, refl))
