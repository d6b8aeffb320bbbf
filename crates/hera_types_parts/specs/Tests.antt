-- What a test of the code says.
use Rattle.std.specs.Prelude.{◌≡◌, ◌≢◌, Option, Some, None, Result, Ok, Err}
use Rattle.hera_rules.specs.declared.fault.TypeFault.{TypeFault}
use Rattle.hera_rules.specs.declared.fault.TypeFault.TheVariants.{Memory as memory}

-- there is no fault, or the code answers it; want of memory says nothing
abbrev pub Tests : {A : Type 0} → Result A TypeFault → Option TypeFault → Type 0
Tests (Ok v) o = o ≡ None
Tests (Err f) o = f ≢ memory → o ≡ Some f
