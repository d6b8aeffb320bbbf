-- The bytes of a file.
use Rattle.std.specs.Prelude.{◌<◌, ℕ}

abbrev pub IsByte : ℕ → Type 0
IsByte n = n < 256
