use Rattle.std.proofs.Common.{◌≡◌, ◌++◌, map, take}
use Rattle.hera_rules.specs.Read.{renamed_of}
use Rattle.hera_types_parts.proofs.tokens.renamings.Given as goal

abbrev pub invariant-loop-renaming : goal.invariant-loop-renaming
invariant-loop-renaming l = l.all.items ≡ l.initial.all.items ++ map renamed_of (take l.renaming-index l.renaming-items)
