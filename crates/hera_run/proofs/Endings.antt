-- Ends of runs that print nothing.
use Rattle.std.proofs.Common.{ℕ, zero, suc, List, [], take, Option}
use Rattle.std.specs.Io.KnownBytes.{Appends}

pub none_part : (before now : Option (List ℕ)) (line : List ℕ) → ((n : ℕ) × Appends before now (take n [])) → (n : ℕ) × Appends before now (take n line)
none_part before now line (zero, said) = (0, said)
none_part before now line (suc n, said) = (0, said)
