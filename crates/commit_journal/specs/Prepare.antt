-- What preparing a record answers.
use Rattle.std.specs.Prelude.{◌≡◌, ℕ, ◌+◌, ◌<◌, List, length}
use Rattle.hera_meaning.specs.Deltas.{Atom}
use Rattle.rel_format.specs.Journal.{record_of}
use Rattle.commit_journal.specs.declared.prepared.PrepareFault.{PrepareFault}
use Rattle.commit_journal.specs.declared.prepared.PrepareFault.TheVariants.{Full, Memory}

-- the place behind the next gate, where the record's own gate is at this place
abbrev pub need_of : List Atom → ℕ → ℕ
need_of xs end = end + length (record_of xs) + 2

-- why the record of these atoms was refused: it needs more bytes than the limit allows, or memory lacks
abbrev pub IsRefusal : List Atom → ℕ → ℕ → PrepareFault → Type 0
IsRefusal xs end limit (Full need most) = (need ≡ need_of xs end) × (most ≡ limit) × (limit < need)
IsRefusal xs end limit Memory = Unit {0}
