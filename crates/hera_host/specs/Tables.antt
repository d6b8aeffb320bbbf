-- Tables of host functions.
use Rattle.std.specs.Prelude.{◌≡◌, ℕ, zero, suc, true, List, [], ◌∷◌, Option, map, All}
use Rattle.std.specs.List.{position_from}
use Rattle.hera_sets.specs.Rows.{is_same}
use Rattle.hera_meaning.specs.declared.hosts.HostSpec.{HostSpec}
use Rattle.hera_meaning.specs.declared.scalars.Kind.{Kind}
use Rattle.hera_meaning.specs.declared.scalars.Kind.TheVariants.{Int as int_kind}
use Rattle.hera_meaning.specs.Hosts.{Hosts, host_takes, host_gives}
use Rattle.hera_meaning.specs.Sound.{is_spec}

-- a host function: its name, and what it answers
pub record Host : Type 0 where
  pub name : List ℕ
  pub spec : HostSpec

abbrev pub host : List ℕ → HostSpec → Host
host name spec = record { name = name; spec = spec }

-- what the hosts of a table answer, by their numbers
abbrev pub specs_of : List Host → Hosts
specs_of table = map (λ h. h.spec) table

-- the numbers of each host are in range, its width is not 0, and its text is one
abbrev pub AreHosts : List Host → Type 0
AreHosts table = All (λ h. is_spec h.spec ≡ true) table

-- the number of the host of this name: its place
abbrev pub host_named : List ℕ → List Host → Option ℕ
host_named name table = position_from (λ h. is_same name h.name) 0 table

-- the kinds of the argument and of the answer of the host of a number, int past the last
abbrev pub takes_at : List Host → ℕ → Kind
takes_at [] h = int_kind
takes_at (x ∷ table) zero = host_takes x.spec
takes_at (x ∷ table) (suc h) = takes_at table h

abbrev pub gives_at : List Host → ℕ → Kind
gives_at [] h = int_kind
gives_at (x ∷ table) zero = host_gives x.spec
gives_at (x ∷ table) (suc h) = gives_at table h
