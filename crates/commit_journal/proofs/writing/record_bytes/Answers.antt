use Rattle.std.proofs.Common.{arith}
use Rattle.delta_atoms.specs.Atoms.{atoms_in}
use Rattle.commit_journal.proofs.Records.{few_atoms, length_record}
use Rattle.commit_journal.proofs.writing.record_bytes.Goals as goal

pub overflow_cast-count : goal.overflow_cast-count
overflow_cast-count c =
    let xs = atoms_in c.args.delta.now in
    let few = c.requires.few in
    omega (arith, few, few_atoms xs, length_record xs, c.count-count.ensures)
