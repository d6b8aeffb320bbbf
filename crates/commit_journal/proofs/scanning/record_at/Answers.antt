use Rattle.std.proofs.Common.{◌≡◌, ◌+◌, ◌-◌, ◌∷◌, [], ◌++◌, refl, arith}
use Rattle.std.proofs.lemmas.Result.{err_from_is_err_and}
use Rattle.hera_meaning.specs.Deltas.{Delta}
use Rattle.delta_atoms.specs.declared.atom.AtomRef.{AtomRef}
use Rattle.delta_atoms.specs.Atoms.{atoms_in}
use Rattle.delta_atoms.specs.Refs.{atom_in}
use Rattle.commit_journal.specs.Table.{at_gate, at_atom_count, at_sign, behind_atom, with_atom, opened}
use Rattle.commit_journal.proofs.Steps.{no_count, begun, next_atom, one_more, all_read, may_push, still_atoms, last_pushed, fault_on}
use Rattle.commit_journal.proofs.scanning.record_at.Goals as goal

pub returns-in_default-clause-read : goal.returns-in_default-clause-read
returns-in_default-clause-read c = rw c.damaged.ensures (λ start records r. no_count c.args.rels.now c.args.bytes.now start c.args.at records c.in_default.ensures.value r)

pub loop-init : goal.loop-init
loop-init c = record {
  within = c.in-Some.ensures.within;
  behind = omega arith;
  known = rw c.empty-delta.ensures refl;
  valid = rw c.empty-delta.ensures tt;
  last = rw c.empty-delta.ensures refl;
  read = λ start records r. begun c.args.rels.now c.args.bytes.now start records c.args.at c.in-Some.count c.empty-delta.result c.empty-delta.ensures c.in-Some.ensures.value r;
}

pub returns-in_err-atom-clause-read : goal.returns-in_err-atom-clause-read
returns-in_err-atom-clause-read c =
    let q = err_from_is_err_and c.from_residual.result c.from_residual.ensures.1 in
    rw (q.1, q.2)
    (λ start records. fault_on {A = AtomRef} {B = Delta} c.args.rels.now c.args.bytes.now start c.args.at c.loop.at (at_atom_count records) (at_sign (opened records (atoms_in c.loop.delta)) (c.in-Some.count - (c.loop.counter + 1)))
    (λ a. behind_atom (with_atom (opened records (atoms_in c.loop.delta)) (atom_in a)) (c.in-Some.count - (c.loop.counter + 1))) (λ delta. at_gate (records ++ atoms_in delta ∷ [])) c.in_err-atom.field-0.0
    (λ r. next_atom c.args.rels.now c.args.bytes.now start records c.loop.at c.in-Some.count c.loop.counter (atoms_in c.loop.delta) c.loop-test.true (c.loop.invariant.read start records r))
    (c.in_err-atom.ensures.read start (opened records (atoms_in c.loop.delta)) (c.in-Some.count - (c.loop.counter + 1)) c.loop.invariant.last))

pub push-requires-clause-last : goal.push-requires-clause-last
push-requires-clause-last c = may_push c.loop.delta c.loop.last (atom_in c.in_ok-atom.atom) c.loop.invariant.known c.loop.invariant.valid c.loop.invariant.last c.in_ok-atom.ensures.past

pub loop-preserved : goal.loop-preserved
loop-preserved c =
    let old = c.loop.delta in
    let a = atom_in c.in_ok-atom.atom in
    record {
      within = c.in_ok-atom.ensures.within;
      behind = omega (arith, c.in_ok-atom.ensures.behind);
      known = rw c.in_ok-push.ensures.ok (still_atoms old a c.loop.invariant.known);
      valid = rw c.in_ok-push.ensures.ok (may_push old c.loop.last a c.loop.invariant.known c.loop.invariant.valid c.loop.invariant.last c.in_ok-atom.ensures.past);
      last = last_pushed old c.push.new.delta a c.loop.invariant.known c.in_ok-push.ensures.ok;
      read = λ start records r.
          let more = c.in-Some.count - (c.loop.counter + 1) in
          one_more c.args.rels.now c.args.bytes.now start records c.in_ok-atom.behind more old c.push.new.delta a c.loop.invariant.known c.in_ok-push.ensures.ok
          (c.in_ok-atom.ensures.read start (opened records (atoms_in old)) more c.loop.invariant.last
          (next_atom c.args.rels.now c.args.bytes.now start records c.loop.at c.in-Some.count c.loop.counter (atoms_in old) c.loop-test.true (c.loop.invariant.read start records r)));
    }

pub returns-clause-read : goal.returns-clause-read
returns-clause-read c = λ start records r. all_read c.args.rels.now c.args.bytes.now start records c.loop.at c.in-Some.count c.loop.counter (atoms_in c.loop.delta) (omega (arith, c.loop-test.false)) (c.loop.invariant.read start records r)
