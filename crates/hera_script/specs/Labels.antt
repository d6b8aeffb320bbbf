-- The beginnings of the lines of refusals.
use Rattle.std.specs.Prelude.{ℕ, List, codes}
use Rattle.hera_script.specs.declared.cause.Cause.{Cause}
use Rattle.hera_script.specs.declared.cause.Cause.TheVariants as causes

abbrev pub label_of : Cause → List ℕ
label_of causes.TooLong = codes "refused TooLong"
label_of causes.BadUtf8 = codes "refused BadUtf8"
label_of causes.BadToken = codes "refused BadToken"
label_of causes.TooDeep = codes "refused TooDeep"
label_of causes.Syntax = codes "refused Syntax"
label_of causes.Unknown = codes "refused Unknown"
label_of causes.Repeated = codes "refused Repeated"
label_of causes.Mismatch = codes "refused Mismatch"
label_of causes.Impure = codes "refused Impure"
label_of causes.NoReturn = codes "refused NoReturn"
label_of causes.TooMany = codes "refused TooMany"
