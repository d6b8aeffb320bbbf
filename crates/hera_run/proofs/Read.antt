-- What is read after a run is as a stop might have left it.
use Rattle.std.proofs.Common.{◌≤◌, ℕ, inl, List, [], Some, refl}
use Rattle.hera_meaning.specs.Worlds.{Event}
use Rattle.hera_causes.specs.declared.traits.Output as output
use Rattle.hera_volume.specs.Disk.{IsImage}
use Rattle.hera_volume.specs.Time.{Image, IsImageOf, LeavesOnly}
use Rattle.hera_volume.specs.declared.file_id.FileId.{FileId}
use Rattle.hera_volume.specs.declared.outside.Outside as files
use Rattle.hera_volume.proofs.Moments.{leaves-none, read-among}
use Rattle.hera_store.specs.Standing.{Standing, StandsFor, database_of}
use Rattle.hera_outcome.specs.Cut.{IsCut}
use Rattle.hera_outcome.specs.Passages.{passage, ReadsAmong, LeavesOnceOpened}
use Rattle.hera_run.proofs.Images.{found-settled, nothing-appended}

module _ {D : Type 0} (q : output.Ghosts D) (w : files.Ghosts D)
    (as_read : (a : D) (f : FileId) → w.told → IsImage (w.disk a f) (w.disk a f).bytes)
    (only_now : (a : D) (c : Image) → w.told → w.left_since a (w.moment a) c → IsImageOf (w.disk a) (q.emitted a) c)
    (counts_now : (a : D) (t : ℕ) (c : Image) → w.told → t ≤ w.moment a → IsImageOf (w.disk a) (q.emitted a) c → w.left_since a t c) where
  -- behind the opening of a folder
  pub read_once : (a b : D) (P : Image → Type 0) → w.told → LeavesOnceOpened w.disk q.emitted w.moment w.left_since w.synced_at a b P → ReadsAmong P (passage q w a b)
  read_once a b P t opens c read = read-among w.told w.disk q.emitted w.moment w.left_since as_read only_now counts_now t opens.behind opens.there c read

  -- over an open folder
  pub read_cut : (a b : D) (s : Standing) (events : List Event) → w.told → StandsFor (w.disk a) s → LeavesOnly w.moment w.left_since a b (IsCut events (database_of s) (q.emitted a))
      → ReadsAmong (IsCut events (database_of s) (q.emitted a)) (passage q w a b)
  read_cut a b s events t stands run c read =
      read-among w.told w.disk q.emitted w.moment w.left_since as_read only_now counts_now t run
      (λ i image. record {
        done = [];
        rest = events;
        split = refl;
        front = 0;
        bytes = nothing-appended (q.emitted a) (Some i.emitted) image.emitted;
        state = (database_of s).state;
        found = found-settled (w.disk a) s i stands image.files;
        stored = inl refl;
      }) c read

  -- and nothing was done
  pub read_none : (a : D) (s : Standing) (events : List Event) → w.told → StandsFor (w.disk a) s → ReadsAmong (IsCut events (database_of s) (q.emitted a)) (passage q w a a)
  read_none a s events t stands = read_cut a a s events t stands (leaves-none w.moment w.left_since a _)
