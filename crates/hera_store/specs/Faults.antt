-- What the refusals of the store say.
use Rattle.std.specs.Prelude.{◌≡◌, ◌≤◌, ◌<◌, ◌⊎◌, ◌+◌, ◌*◌, ℕ, List, length, Some}
use Rattle.hera_meaning.specs.Deltas.{Atom, Delta}
use Rattle.delta_atoms.specs.Atoms.{atoms_in}
use Rattle.commit_journal.specs.Prepare.{need_of}
use Rattle.rel_format.specs.declared.version.TheConstants.{PAGE_TWO}
use Rattle.rel_format.specs.Pages.{format_two, header_of, page_count, half_of}
use Rattle.half_writer.specs.declared.pages.HalfFault.{HalfFault}
use Rattle.half_writer.specs.declared.pages.HalfFault.TheVariants.{Full as HalfFull, Memory as HalfMemory}
use Rattle.hera_meaning.specs.declared.schemas.RelDecl.{RelDecl}
use Rattle.hera_meaning.specs.Wider.{Wider, first_narrowed}
use Rattle.hera_store.specs.Databases.{Database}
use Rattle.hera_store.specs.Standing.{Standing}
use Rattle.hera_store.specs.declared.faults.CommitFault.{CommitFault}
use Rattle.hera_store.specs.declared.faults.CommitFault.TheVariants.{Full, Device, Memory, Closed}
use Rattle.hera_store.specs.Widened.{widened}
use Rattle.hera_store.specs.declared.faults.CheckFault.{CheckFault}
use Rattle.hera_store.specs.declared.faults.CheckFault.TheVariants.{Full as CheckFull, Device as CheckDevice, Memory as CheckMemory, Closed as CheckClosed}
use Rattle.hera_store.specs.declared.faults.WidenFault.{WidenFault}
use Rattle.hera_store.specs.declared.faults.WidenFault.TheVariants.{Closed as WidenClosed, Narrows as WidenNarrows, Full as WidenFull, Memory as WidenMemory, Device as WidenDevice}

-- the place behind the gate that comes behind the delta's record
abbrev pub commit_need : Standing → Delta → ℕ
commit_need store delta = need_of (atoms_in delta) store.end

-- the same of a record that is not written yet, so the device is not asked
abbrev pub IsRecordRefusal : List Atom → ℕ → ℕ → CommitFault → Type 0
IsRecordRefusal xs end limit (Full need most) = (need ≡ need_of xs end) × (most ≡ limit) × (limit < need)
IsRecordRefusal xs end limit Device = ⊥
IsRecordRefusal xs end limit Memory = Unit {0}
IsRecordRefusal xs end limit Closed = ⊥

-- `Full` tells the need, which passes the limit, and the limit; the device is asked only for a need within the limit
abbrev pub IsCommitRefusal : Standing → Delta → ℕ → CommitFault → Type 0
IsCommitRefusal store delta limit (Full need most) = (need ≡ commit_need store delta) × (most ≡ limit) × (limit < need)
IsCommitRefusal store delta limit Device = commit_need store delta ≤ limit
IsCommitRefusal store delta limit Memory = Unit {0}
IsCommitRefusal store delta limit Closed = Unit {0}

-- the bytes of the half with this database in its pages, in format 2
abbrev pub half_with : Database → List ℕ
half_with db = half_of format_two db.catalogue db.state

-- the first number of bytes past the limit, as the pages of the database are put one by one between the header with
-- the page count and a closed gate
pub record IsFirstNeed (db : Database) (limit need : ℕ) : Type 0 where
  pub pages : ℕ
  pub few : pages ≤ page_count PAGE_TWO db.state
  pub sum : need ≡ length (header_of format_two db.catalogue) + 5 + PAGE_TWO * pages
  pub past : limit < need
  pub first : (pages ≡ 0) ⊎ (need ≤ limit + PAGE_TWO)

-- the same of a half that is not written yet, so the device is not asked
abbrev pub IsPrintRefusal : Database → ℕ → CheckFault → Type 0
IsPrintRefusal db limit (CheckFull need most) = IsFirstNeed db limit need × (most ≡ limit) × (limit < length (half_with db))
IsPrintRefusal db limit CheckDevice = ⊥
IsPrintRefusal db limit CheckMemory = Unit {0}
IsPrintRefusal db limit CheckClosed = ⊥

-- a writer's refusal
abbrev pub check_fault : HalfFault → CheckFault
check_fault (HalfFull need limit) = CheckFull need limit
check_fault HalfMemory = CheckMemory

-- `Full` tells that need and the limit; the device is asked only for a half within the limit
abbrev pub IsCheckRefusal : Database → ℕ → CheckFault → Type 0
IsCheckRefusal db limit (CheckFull need most) = IsFirstNeed db limit need × (most ≡ limit) × (limit < length (half_with db))
IsCheckRefusal db limit CheckDevice = length (half_with db) ≤ limit
IsCheckRefusal db limit CheckMemory = Unit {0}
IsCheckRefusal db limit CheckClosed = Unit {0}

-- a writer's refusal
abbrev pub widen_fault : HalfFault → WidenFault
widen_fault (HalfFull need limit) = WidenFull need limit
widen_fault HalfMemory = WidenMemory

-- the want of room or of memory of a database that is widened already
abbrev pub IsWidePrintRefusal : Database → ℕ → WidenFault → Type 0
IsWidePrintRefusal db limit (WidenNarrows relation) = ⊥
IsWidePrintRefusal db limit (WidenFull need most) = IsFirstNeed db limit need × (most ≡ limit) × (limit < length (half_with db))
IsWidePrintRefusal db limit WidenMemory = Unit {0}
IsWidePrintRefusal db limit WidenDevice = ⊥
IsWidePrintRefusal db limit WidenClosed = ⊥

-- `Narrows` tells the first relation of the old catalogue that the new one narrows
abbrev pub IsNarrowing : List RelDecl → List RelDecl → WidenFault → Type 0
IsNarrowing old new (WidenNarrows relation) = first_narrowed old new ≡ Some relation
IsNarrowing old new (WidenFull need most) = ⊥
IsNarrowing old new WidenMemory = Unit {0}
IsNarrowing old new WidenDevice = ⊥
IsNarrowing old new WidenClosed = ⊥

-- both, before the device is asked
abbrev pub IsWideningRefusal : Database → List RelDecl → ℕ → WidenFault → Type 0
IsWideningRefusal db rels limit (WidenNarrows relation) = first_narrowed db.catalogue rels ≡ Some relation
IsWideningRefusal db rels limit (WidenFull need most) = Wider db.catalogue rels × IsFirstNeed (widened db rels) limit need × (most ≡ limit) × (limit < length (half_with (widened db rels)))
IsWideningRefusal db rels limit WidenMemory = Unit {0}
IsWideningRefusal db rels limit WidenDevice = ⊥
IsWideningRefusal db rels limit WidenClosed = ⊥

-- the device is asked only for a wider database whose half is within the limit
abbrev pub IsWidenRefusal : Database → List RelDecl → ℕ → WidenFault → Type 0
IsWidenRefusal db rels limit (WidenNarrows relation) = first_narrowed db.catalogue rels ≡ Some relation
IsWidenRefusal db rels limit (WidenFull need most) = Wider db.catalogue rels × IsFirstNeed (widened db rels) limit need × (most ≡ limit) × (limit < length (half_with (widened db rels)))
IsWidenRefusal db rels limit WidenMemory = Unit {0}
IsWidenRefusal db rels limit WidenDevice = Wider db.catalogue rels × (length (half_with (widened db rels)) ≤ limit)
IsWidenRefusal db rels limit WidenClosed = Unit {0}
