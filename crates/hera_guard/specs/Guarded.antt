-- Runs that end where the state to be stored breaks a guard.
use Rattle.std.specs.Prelude.{ℕ, zero, suc, Bool, true, false, cond, List, [], ◌∷◌, ◌++◌, Option, None, Some, is_some, codes}
use Rattle.std.specs.Option.{option_map}
use Rattle.hera_meaning.specs.declared.schemas.RelDecl.{RelDecl}
use Rattle.hera_meaning.specs.Deltas.{State, schema_of}
use Rattle.hera_meaning.specs.Printed.{name_of, tuple_text}
use Rattle.hera_meaning.specs.Trees.{Program_tree}
use Rattle.hera_meaning.specs.Worlds.{Event, out, store}
use Rattle.hera_meaning.specs.Run.{Finish, Report, run_of}
use Rattle.hera_host.specs.Tables.{Host, specs_of}
use Rattle.hera_guard.specs.declared.table.Guard.{Guard}
use Rattle.hera_guard.specs.declared.table.Break.{Break}
use Rattle.hera_guard.specs.Guards.{breaks, first}

-- ---- the line of a break

-- the name of the host of a number, empty past the last
abbrev pub host_name : List Host → ℕ → List ℕ
host_name [] h = []
host_name (x ∷ hosts) zero = x.name
host_name (x ∷ hosts) (suc h) = host_name hosts h

-- the name of the host of the guard of a number, empty past the last
abbrev pub guard_name : List Host → List Guard → ℕ → List ℕ
guard_name hosts [] n = []
guard_name hosts (g ∷ guards) zero = host_name hosts g.host
guard_name hosts (g ∷ guards) (suc n) = guard_name hosts guards n

-- `guard`, the host's name, `refused`, and the relation's name with the tuple
unfoldable pub break_text : List RelDecl → List ℕ → Break → List ℕ
break_text rels name b = codes "guard " ++ name ++ codes " refused " ++ name_of rels b.rel.0 ++ tuple_text (schema_of rels b.rel.0) b.row ++ codes "\n"

-- the line of the first break of a state, if it has one
abbrev pub refusal_of : List Host → List Guard → List RelDecl → State → Option (List ℕ)
refusal_of hosts guards rels s = option_map (λ b. break_text rels (guard_name hosts guards b.guard) b) (first (breaks (specs_of hosts) guards rels s))

-- ---- events

-- the line is the last event, where there is one, in place of the others
abbrev pub or_line : Option (List ℕ) → List Event → List Event
or_line None events = events
or_line (Some line) events = out line ∷ []

-- the events up to before the first store of a state that is refused, and then its line
abbrev pub guarded : (State → Option (List ℕ)) → List Event → List Event
guarded refusal [] = []
guarded refusal (out bytes ∷ events) = out bytes ∷ guarded refusal events
guarded refusal (store s d ∷ events) = or_line (refusal s) (store s d ∷ guarded refusal events)

-- no state that is stored is refused
abbrev pub passes : (State → Option (List ℕ)) → List Event → Bool
passes refusal [] = true
passes refusal (out bytes ∷ events) = passes refusal events
passes refusal (store s d ∷ events) = cond (is_some (refusal s)) false (passes refusal events)

-- ---- runs

-- the run came to its own end, or a guard ended it
pub data GuardedFinish : Type 0 where
  ends : Finish → GuardedFinish
  refused : GuardedFinish

pub record GuardedReport : Type 0 where
  pub events : List Event
  pub finish : GuardedFinish

-- a report, as it is under guards from a state that is not refused
abbrev pub guarded_report : (State → Option (List ℕ)) → Report → GuardedReport
guarded_report refusal report = record { events = guarded refusal report.events; finish = cond (passes refusal report.events) (ends report.finish) refused }

-- where the state from which the run begins is refused, its line alone
abbrev pub guarded_from : Option (List ℕ) → GuardedReport → GuardedReport
guarded_from None report = report
guarded_from (Some line) report = record { events = out line ∷ []; finish = refused }

-- the run of a program under guards, from this state with n turns
abbrev pub guarded_of : Program_tree → State → List Host → ℕ → List Guard → GuardedReport
guarded_of p s hosts n guards =
    let refusal = refusal_of hosts guards p.relations in guarded_from (refusal s) (guarded_report refusal (run_of p s (specs_of hosts) n))
