-- What the names of lines mean over a catalogue and a table of hosts.
use Rattle.std.specs.Prelude.{◌≡◌, ℕ, Bool, cond, ◌&&◌, List, [], ◌∷◌, Option, None, Some}
use Rattle.hera_meaning.specs.declared.scalars.Kind.TheVariants.{Bool as bool_kind}
use Rattle.hera_meaning.specs.declared.schemas.Attr.{Attr}
use Rattle.hera_meaning.specs.declared.schemas.RelDecl.{RelDecl}
use Rattle.hera_meaning.specs.Scalars.{is_same_kind}
use Rattle.hera_meaning.specs.Schemas.{place_named}
use Rattle.hera_meaning.specs.Deltas.{schema_of}
use Rattle.hera_meaning.specs.Forms.{kind_at}
use Rattle.hera_row.specs.Numbers.{number_named}
use Rattle.hera_host.specs.Tables.{Host, host_named, takes_at, gives_at}
use Rattle.hera_guard.specs.declared.table.Guard.{Guard}
use Rattle.hera_guard_lines.specs.declared.lines.GuardLine.{GuardLine}
use Rattle.hera_guard_lines.specs.declared.naming.NameFault.{NameFault}
use Rattle.hera_guard_lines.specs.declared.naming.NameFault.TheVariants.{Unknown, Mismatch}

-- a line means a guard, or has a fault
pub data Meaning : Type 0 where
  means : Guard → Meaning
  faulty : NameFault → Meaning

-- the host answers a bool, and takes the kind of the attribute
abbrev pub fits : List Attr → ℕ → List Host → ℕ → Bool
fits schema place hosts h = is_same_kind bool_kind (gives_at hosts h) && is_same_kind (kind_at schema place) (takes_at hosts h)

module _ (rels : List RelDecl) (hosts : List Host) (l : GuardLine) where
  -- where the relation and the attribute are there
  abbrev pub by_host : ℕ → ℕ → Option ℕ → Meaning
  by_host r place None = faulty (Unknown l.host.at)
  by_host r place (Some h) = cond (fits (schema_of rels r) place hosts h) (means (record { rel = record { 0 = r }; place = place; host = h })) (faulty (Mismatch l.host.at))

  -- where the relation is there
  abbrev pub by_attribute : ℕ → Option ℕ → Meaning
  by_attribute r None = faulty (Unknown l.attribute.at)
  by_attribute r (Some place) = by_host r place (host_named l.host.name hosts)

  abbrev pub by_relation : Option ℕ → Meaning
  by_relation None = faulty (Unknown l.relation.at)
  by_relation (Some r) = by_attribute r (place_named l.attribute.name (schema_of rels r))

  -- The relation, the attribute and the host are looked for in this order. Unknown stands at the first that is not
  -- there, and Mismatch at a host that does not fit.
  abbrev pub meaning_of : Meaning
  meaning_of = by_relation (number_named l.relation.name rels)

-- the lines mean these guards, each its own
pub data Mean (rels : List RelDecl) (hosts : List Host) : List GuardLine → List Guard → Type 0 where
  none : Mean rels hosts [] []
  one_more : {l : GuardLine} {g : Guard} {lines : List GuardLine} {guards : List Guard} → meaning_of rels hosts l ≡ means g → Mean rels hosts lines guards → Mean rels hosts (l ∷ lines) (g ∷ guards)

-- the first line that has a fault has this one
pub data FirstFault (rels : List RelDecl) (hosts : List Host) : List GuardLine → NameFault → Type 0 where
  here : {l : GuardLine} {lines : List GuardLine} {fault : NameFault} → meaning_of rels hosts l ≡ faulty fault → FirstFault rels hosts (l ∷ lines) fault
  later : {l : GuardLine} {g : Guard} {lines : List GuardLine} {fault : NameFault} → meaning_of rels hosts l ≡ means g → FirstFault rels hosts lines fault → FirstFault rels hosts (l ∷ lines) fault
