-- A database moved to its other half.
use Rattle.std.proofs.Common.{◌≡◌, ◌≢◌, ◌≤◌, List, [], ◌∷◌, ℕ, length, refl, sym, subst}
use Rattle.hera_meaning.specs.Commits.{after_all}
use Rattle.hera_meaning.specs.Catalogues.{IsCatalogue}
use Rattle.hera_volume.specs.declared.file_id.FileId.{FileId}
use Rattle.hera_volume.specs.declared.file_id.FileId.TheVariants.{Select, Left, Right}
use Rattle.rel_format.specs.Versions.{IsHalfOf}
use Rattle.rel_format.specs.declared.version.Version.TheVariants.{Two}
use Rattle.rel_format.specs.Journal.{half_limit}
use Rattle.half_laws.proofs.Halves.{half_of_is}
use Rattle.hera_volume.specs.Disk.{Disk}
use Rattle.hera_store.specs.Databases.{Database, half_named, Names, Holds}
use Rattle.hera_store.specs.Standing.{Standing, AreOver, database_of, other_half, select_byte}
use Rattle.hera_store.proofs.Selections.{not_select}
use Rattle.hera_store.specs.Faults.{half_with}
use Rattle.hera_store.specs.Widened.{widened}
use Rattle.hera_meaning.specs.declared.schemas.RelDecl.{RelDecl}
use Rattle.hera_meaning.specs.Wider.{Wider}
use Rattle.hera_meaning.proofs.CommitLaws.{state_after_all}
use Rattle.hera_meaning.proofs.WiderLaws.{wide_state}

pub other_twice : (half : FileId) → other_half (other_half half) ≡ half
other_twice Select = refl
other_twice Left = refl
other_twice Right = refl

pub renewed_is : (store : Standing) (bytes : List ℕ) → AreOver store.base store.commits → IsCatalogue store.base.catalogue → length (half_with (database_of store)) ≤ half_limit → bytes ≡ half_with (database_of store)
    → IsHalfOf bytes store.base.catalogue (after_all store.base.state store.commits)
renewed_is store bytes over catalogue short is =
    let state = after_all store.base.state store.commits in
    let valid = state_after_all store.base.catalogue store.base.state store.commits over.state over.proper in
    subst (λ (l : List ℕ). IsHalfOf l store.base.catalogue state) (sym is) (Two, (half_of_is store.base.catalogue state catalogue valid short).half)

byte_names : (half : FileId) → Select ≢ half → half_named (select_byte half) ≡ half
byte_names Select ne = absurd (ne refl)
byte_names Left ne = refl
byte_names Right ne = refl

other_named : (half : FileId) → Select ≢ half → Select ≢ other_half half
other_named Select ne = ne
other_named Left ne = λ e. cc
other_named Right ne = λ e. cc

-- the byte written names the other half
pub other_selected : (store : Standing) (select now : List ℕ) → Names select store.half → now ≡ select_byte (other_half store.half) ∷ [] → Names now (other_half store.half)
other_selected store select now named is = (select_byte (other_half store.half), is, byte_names (other_half store.half) (other_named store.half (not_select store.half select named)))

-- what the files hold once the other half is selected
pub switched_holds : (store : Standing) (db : Database) (select : List ℕ) (now : FileId → Disk) → Names select store.half → (now Select).bytes ≡ select_byte (other_half store.half) ∷ []
    → IsHalfOf (now (other_half store.half)).bytes db.catalogue db.state → Holds (λ f. (now f).bytes) db
switched_holds store db select now named selects half = record {
  byte = select_byte (other_half store.half);
  selects = selects;
  half = subst (λ (f : FileId). IsHalfOf (now f).bytes db.catalogue db.state)
      (sym (byte_names (other_half store.half) (other_named store.half (not_select store.half select named)))) half;
}

-- the widened database as it is printed
pub widened_is : (store : Standing) (rels : List RelDecl) (bytes : List ℕ) → AreOver store.base store.commits → IsCatalogue rels → Wider store.base.catalogue rels
    → length (half_with (widened (database_of store) rels)) ≤ half_limit → bytes ≡ half_with (widened (database_of store) rels) → IsHalfOf bytes rels (widened (database_of store) rels).state
widened_is store rels bytes over catalogue wider short is =
    let state = after_all store.base.state store.commits in
    let valid = state_after_all store.base.catalogue store.base.state store.commits over.state over.proper in
    let wide = wide_state store.base.catalogue rels state catalogue.distinct wider valid in
    subst (λ (l : List ℕ). IsHalfOf l rels (widened (database_of store) rels).state) (sym is) (Two, (half_of_is rels (widened (database_of store) rels).state catalogue wide short).half)
