-- What a set of names stands for, and the names of what is declared.
use Rattle.std.specs.Prelude.{ℕ, List, map, Option, Some, None, slice_get, Vec}
use Rattle.std.specs.Global.{Global}
use Rattle.hera_rules.specs.declared.env.FuncSig.{FuncSig}
use Rattle.hera_rules.specs.declared.env.ProcSig.{ProcSig}

abbrev pub bytes_of : Vec ℕ Global → List ℕ
bytes_of name = name.items

abbrev pub names_in : List (Vec ℕ Global) → List (List ℕ)
names_in keys = map bytes_of keys

abbrev pub func_name : FuncSig → List ℕ
func_name f = f.name

abbrev pub proc_name : ProcSig → List ℕ
proc_name p = p.name

-- what stands at a place, if there is one
abbrev pub at_place : {A : Type 0} → List A → Option ℕ → Option A
at_place xs None = None
at_place xs (Some i) = slice_get xs i
