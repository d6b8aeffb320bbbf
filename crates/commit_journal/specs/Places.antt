-- How far the fields of a journal go.
use Rattle.std.specs.Prelude.{◌≡◌, ◌≢◌, ℕ, ◌+◌, List, [], ◌∷◌, ◌++◌, length, take, drop, map, All, Result, Ok, Err}
use Rattle.std.specs.List.{flat_map}
use Rattle.hera_meaning.specs.declared.schemas.RelDecl.{RelDecl}
use Rattle.hera_meaning.specs.Deltas.{Atom, Delta, atoms}
use Rattle.rel_format.specs.Walk.{ReachesBy, StopsBy}
use Rattle.rel_format.specs.Journal.{IsRecordOf, sealed}
use Rattle.commit_journal.specs.declared.scanning.ScanFault.{ScanFault}
use Rattle.commit_journal.specs.declared.scanning.ScanFault.TheVariants.{Damaged, Memory}
use Rattle.commit_journal.specs.declared.scanning.Journal.{Journal}
use Rattle.commit_journal.specs.Table.{JournalStand, at_gate, at_end, is_whole, next}

-- whole fields, each keeping its rule after those before it, go from the first gate to this place
abbrev pub Reaches : List RelDecl → List ℕ → ℕ → ℕ → JournalStand → Type 0
Reaches rels bytes start at s = ReachesBy (next rels) bytes (start, at_gate []) at s

-- a field that breaks its rule, or does not lie wholly in the bytes, begins at this place
abbrev pub Stops : List RelDecl → List ℕ → ℕ → ℕ → Type 0
Stops rels bytes start at = StopsBy (next rels) is_whole bytes (start, at_gate []) at

-- what reading on gives: the value and the place behind it, or the place of the damage
abbrev pub Reads : {A : Type 0} → List RelDecl → List ℕ → ℕ → ℕ → JournalStand → (A → JournalStand) → Result (A × ℕ) ScanFault → Type 0
Reads rels bytes start at s behind (Ok x) = Reaches rels bytes start at s → Reaches rels bytes start x.1 (behind x.0)
Reads rels bytes start at s behind (Err (Damaged place)) = Reaches rels bytes start at s → Stops rels bytes start place
Reads rels bytes start at s behind (Err Memory) = Unit {0}

-- from a place on stand records of these deltas, each behind an open gate, and then at `end` a gate that is not open
pub record IsJournal (rels : List RelDecl) (bytes : List ℕ) (at : ℕ) (deltas : List Delta) (end : ℕ) : Type 0 where
  pub records : List (List Atom)
  pub told : deltas ≡ map atoms records
  pub valid : All (IsRecordOf rels) records
  pub gate : ℕ
  pub closed : gate ≢ 1
  pub printed : bytes ≡ take at bytes ++ flat_map sealed records ++ gate ∷ drop (end + 1) bytes
  pub place : end ≡ at + length (flat_map sealed records)
  pub reached : Reaches rels bytes at (end + 1) (at_end records gate)

-- what scanning a journal gives
abbrev pub JournalIs : List RelDecl → List ℕ → ℕ → Result Journal ScanFault → Type 0
JournalIs rels bytes at (Ok journal) = IsJournal rels bytes at journal.deltas.items journal.end
JournalIs rels bytes at (Err (Damaged place)) = Stops rels bytes at place
JournalIs rels bytes at (Err Memory) = Unit {0}
