use Rattle.std.proofs.Common.{List, ◌++◌, drop}
use Rattle.hera_guard.specs.Guards.{AreGuards}
use Rattle.hera_guard.specs.declared.table.Guard.{Guard}
use Rattle.hera_guard_lines.specs.declared.naming.NameFault.{NameFault}
use Rattle.hera_guard_lines.specs.Naming.{Mean, FirstFault}
use Rattle.hera_guard_lines.proofs.naming.guards_of.Given as goal

-- with what the lines that are left mean, the guards are what all mean, and a fault of these is the first of all
abbrev pub invariant-loop-line : goal.invariant-loop-line
invariant-loop-line g l = record {
  mean : (more : List Guard) → Mean l.catalogue l.hosts.names (drop l.line-index l.items) more → Mean l.catalogue l.hosts.names l.items (l.table ++ more);
  fault : (f : NameFault) → FirstFault l.catalogue l.hosts.names (drop l.line-index l.items) f → FirstFault l.catalogue l.hosts.names l.items f;
  are : AreGuards l.catalogue l.hosts.names l.table;
}
