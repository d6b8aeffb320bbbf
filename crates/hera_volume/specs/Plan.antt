-- Which calls an outside in memory lets through.
use Rattle.std.specs.Prelude.{ℕ, ◌<◌, List, Contains, Option, Some, None, IfSome}

-- neither the list nor the stop lets the call with this number fail
abbrev pub MayGo : ℕ → List ℕ → Option ℕ → Type 0
MayGo call fails stop = IfSome stop (λ number. call < number) × ¬ Contains fails call

-- the call at which all stops is among those that were made
abbrev pub HasStopped : ℕ → Option ℕ → Type 0
HasStopped calls None = ⊥
HasStopped calls (Some number) = number < calls
