-- What is found while one event is carried out is a cut of it.
use Rattle.std.proofs.Common.{◌≡◌, ℕ, inl, inr, ⊎_elim, List, [], ◌∷◌, ◌++◌, Option, Some, None, refl, sym, ap, subst, ◌∙◌, append-nil}
use Rattle.std.specs.Io.KnownBytes.{Appends, Keeps}
use Rattle.hera_meaning.specs.Commits.{after_all}
use Rattle.hera_meaning.specs.Deltas.{Delta, State, apply_of}
use Rattle.hera_meaning.specs.Worlds.{out, store}
use Rattle.hera_meaning.specs.Printed.{trap_line, spent_line}
use Rattle.hera_machine.specs.Ends.{last_text}
use Rattle.hera_machine.specs.Over.{state_over}
use Rattle.hera_steps.specs.declared.events.End.{End}
use Rattle.hera_steps.specs.declared.events.End.TheVariants.{Done, Trap, Spent, Stuck}
use Rattle.hera_volume.specs.Disk.{Disk, IsImage, IsSettled}
use Rattle.hera_volume.specs.Time.{Image, IsImageAmid}
use Rattle.hera_volume.proofs.Images.{image-settled}
use Rattle.hera_volume.specs.declared.file_id.FileId.{FileId}
use Rattle.hera_meaning.proofs.CommitLaws.{state_push}
use Rattle.hera_store.specs.Databases.{Database, Holds}
use Rattle.hera_store.specs.Moments.{IsEither}
use Rattle.hera_store.specs.Standing.{Standing, StandsFor, database_of, database_after}
use Rattle.hera_run.specs.Keeping.{AreLeft, finds_settled}
use Rattle.hera_run.specs.Running.{ending_of}
use Rattle.hera_outcome.specs.Cut.{IsCut, IsCutWith, with_state}

-- ---- states after commits

pub with_over : (s : State) (ds : List Delta) → after_all s ds ≡ state_over s ds
with_over s [] = refl
with_over s (d ∷ ds) = with_over (apply_of s d) ds

-- the database of a store one commit later
pub database_more : (old now : Standing) (d : Delta) (db : Database) → now.base ≡ old.base → now.commits ≡ old.commits ++ d ∷ [] → database_of old ≡ db
    → database_of now ≡ with_state db (apply_of db.state d)
database_more old now d db same longer is =
    ap (λ (b : _). record { catalogue = b.catalogue; state = after_all b.state now.commits }) same
    ∙ ap (λ (cs : List Delta). record { catalogue = old.base.catalogue; state = after_all old.base.state cs }) longer
    ∙ ap (λ (t : State). record { catalogue = old.base.catalogue; state = t }) (state_push old.base.state old.commits d)
    ∙ ap (λ (x : Database). with_state x (apply_of x.state d)) is

-- ---- a store and its files

-- a store stands for files that are as before
pub stands-kept : (before now : FileId → Disk) (s : Standing) → ((f : FileId) → now f ≡ before f) → StandsFor before s → StandsFor now s
stands-kept before now s same stands =
    let is : before ≡ now = λ i f. sym (same f) i in
    subst (λ (d : FileId → Disk). StandsFor d s) is stands

-- the only image of settled files is what a read gives
pub holds-settled : (disks : FileId → Disk) (db : Database) (c : Image) → ((f : FileId) → IsSettled (disks f)) → Holds (λ f. (disks f).bytes) db → ((f : FileId) → IsImage (disks f) (c.files f)) → Holds c.files db
holds-settled disks db c settled holds images =
    let is : (λ (f : FileId). (disks f).bytes) ≡ c.files = λ i f. sym (image-settled (disks f) (c.files f) (settled f) (images f)) i in
    subst (λ (x : FileId → List ℕ). Holds x db) is holds

pub found-settled : (disks : FileId → Disk) (s : Standing) (c : Image) → StandsFor disks s → ((f : FileId) → IsImage (disks f) (c.files f)) → Holds c.files (database_of s)
found-settled disks s c stands images = finds_settled disks s c.files stands images

pub nothing-appended : (a b : Option (List ℕ)) → Keeps a b → Appends a b []
nothing-appended None b kept = tt
nothing-appended (Some x) None kept = absurd kept
nothing-appended (Some x) (Some y) kept = kept ∙ sym (append-nil x)

-- ---- cuts of one event

-- while a commit is stored
pub cut-stored : (s : Standing) (d : Delta) (start : Option (List ℕ)) (c : Image) → IsEither (database_of s) (database_after s d) start c
    → IsCut (store (apply_of (database_of s).state d) d ∷ []) (database_of s) start c
cut-stored s d start c image =
    let kept = nothing-appended start (Some c.emitted) image.emitted in
    ⊎_elim
    (λ (before : Holds c.files (database_of s)). record {
      done = [];
      rest = store (apply_of (database_of s).state d) d ∷ [];
      split = refl;
      front = 0;
      bytes = kept;
      state = (database_of s).state;
      found = before;
      stored = inl refl;
    })
    (λ (after : Holds c.files (database_after s d)). record {
      done = [];
      rest = store (apply_of (database_of s).state d) d ∷ [];
      split = refl;
      front = 0;
      bytes = kept;
      state = (database_after s d).state;
      found = after;
      stored = inr (state_push s.base.state s.commits d);
    })
    image.found

-- while something is said, over files in which this state is found
module _ (finds : (FileId → List ℕ) → State → Type 0) (disks : FileId → Disk) (s : State) (own : (files : FileId → List ℕ) → AreLeft disks files → finds files s) (start : Option (List ℕ)) (c : Image) where
  pub cut-said : (line : List ℕ) → IsImageAmid disks start line c → IsCutWith finds (out line ∷ []) s start c
  cut-said line image = record {
    done = [];
    rest = out line ∷ [];
    split = refl;
    front = image.emitted.0;
    bytes = image.emitted.1;
    state = s;
    found = own c.files image.files;
    stored = inl refl;
  }

  -- the last line of a run
  cut-none : IsImageAmid disks start [] c → IsCutWith finds [] s start c
  cut-none image = record {
    done = [];
    rest = [];
    split = refl;
    front = image.emitted.0;
    bytes = image.emitted.1;
    state = s;
    found = own c.files image.files;
    stored = inl refl;
  }

  cut-line : (line : List ℕ) → IsImageAmid disks start (line ++ []) c → IsCutWith finds (out line ∷ []) s start c
  cut-line line image = cut-said line (subst (λ (l : List ℕ). IsImageAmid disks start l c) (append-nil line) image)

  pub cut-ending : (end : End) → IsImageAmid disks start (last_text end) c → IsCutWith finds (ending_of end) s start c
  cut-ending Done image = cut-none image
  cut-ending (Trap name at) image = cut-line (trap_line name at) image
  cut-ending Spent image = cut-line spent_line image
  cut-ending Stuck image = cut-none image
