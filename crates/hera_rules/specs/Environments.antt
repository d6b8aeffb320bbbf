-- What names mean.
use Rattle.std.specs.Prelude.{ℕ, List, ◌||◌, Bool, Option, is_some, find}
use Rattle.std.specs.List.{position_from}
use Rattle.hera_sets.specs.Rows.{is_same}
use Rattle.hera_meaning.specs.declared.schemas.RelDecl.{RelDecl}
use Rattle.hera_host.specs.Tables.{Host}
use Rattle.hera_rules.specs.declared.env.Local.{Local}
use Rattle.hera_rules.specs.declared.env.FuncSig.{FuncSig}
use Rattle.hera_rules.specs.declared.env.ProcSig.{ProcSig}
use Rattle.hera_rules.specs.declared.env.Globals.{Globals}

-- the relations, funcs and procs of a script, and the hosts
pub record Env : Type 0 where
  pub relations : List RelDecl
  pub funcs : List FuncSig
  pub procs : List ProcSig
  pub hosts : List Host

abbrev pub env_of : Globals → Env
env_of g = record { relations = g.relations; funcs = g.funcs.items; procs = g.procs.items; hosts = g.hosts.now }

-- the number of a relation: its place
abbrev pub relation_named : List ℕ → List RelDecl → Option ℕ
relation_named name rels = position_from (λ d. is_same name d.name) 0 rels

abbrev pub func_named : List ℕ → List FuncSig → Option FuncSig
func_named name funcs = find (λ f. is_same name f.name) funcs

abbrev pub proc_named : List ℕ → List ProcSig → Option ProcSig
proc_named name procs = find (λ p. is_same name p.name) procs

-- the visible local of a name
abbrev pub local_named : List ℕ → List Local → Option Local
local_named name ls = find (λ l. is_same name l.name) ls

-- a relation, a func or a proc has the name
abbrev pub is_global : Env → List ℕ → Bool
is_global g name = is_some (relation_named name g.relations) || (is_some (func_named name g.funcs) || is_some (proc_named name g.procs))

-- a visible local, a relation, a func or a proc has the name
abbrev pub is_taken : Env → List Local → List ℕ → Bool
is_taken g ls name = is_some (local_named name ls) || is_global g name
