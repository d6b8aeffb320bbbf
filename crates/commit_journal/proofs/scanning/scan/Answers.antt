use Rattle.std.proofs.Common.{◌≡◌, ◌≤◌, ◌+◌, ◌-◌, ◌∷◌, [], ◌++◌, refl, sym, ap, rules, arith}
use Rattle.std.proofs.lemmas.Bool.{eq-eqb, ne_eqb}
use Rattle.std.proofs.lemmas.List.{drop_all}
use Rattle.std.proofs.lemmas.Result.{err_from_is_err_and}
use Rattle.hera_meaning.specs.Deltas.{Delta}
use Rattle.hera_row.proofs.FieldLemmas.{AreBytes}
use Rattle.delta_atoms.specs.Atoms.{atoms_in}
use Rattle.rel_format.specs.Fields.{first_byte}
use Rattle.commit_journal.specs.Table.{at_gate, at_atom_count}
use Rattle.commit_journal.proofs.Steps.{no_gate, behind_open, behind_closed, fault_is, deltas_push}
use Rattle.commit_journal.proofs.Printed.{whole_journal}
use Rattle.commit_journal.proofs.scanning.scan.Goals as goal

pub returns-then-at-bytes : goal.returns-then-at-bytes
returns-then-at-bytes c =
    let none = sym (ap first_byte (drop_all c.args.at c.args.bytes.now (omega (arith, c.if-at-bytes.true)))) in
    rw c.damaged.ensures (no_gate c.args.rels.now c.args.bytes.now c.args.at c.args.at [] none (0, refl))

pub returns-in_default : goal.returns-in_default
returns-in_default c = rw c.damaged-in_default.ensures (no_gate c.args.rels.now c.args.bytes.now c.args.at c.loop-byte.gate c.loop-byte.invariant.read.0 c.in_default.ensures.value c.loop-byte.invariant.read.2)

pub returns-then-byte-ne-OPEN : goal.returns-then-byte-ne-OPEN
returns-then-byte-ne-OPEN c =
    let bytes : AreBytes c.args.bytes.now = λ i. search rules in
    whole_journal c.args.rels.now c.args.bytes.now c.args.at c.loop-byte.gate c.loop-byte.deltas.items c.loop-byte.invariant.read.0 c.in-Some.byte bytes (omega (arith, c.if-at-bytes.false)) (omega (arith, c.in-Some.ensures.within)) c.loop-byte.invariant.read.1
    (behind_closed c.args.rels.now c.args.bytes.now c.args.at c.loop-byte.gate c.loop-byte.invariant.read.0 c.in-Some.byte c.in-Some.ensures.value (ne_eqb c.in-Some.byte 1 c.if-byte-ne-OPEN.true) c.loop-byte.invariant.read.2)

pub returns-in_err-delta : goal.returns-in_err-delta
returns-in_err-delta c =
    let q = err_from_is_err_and c.from_residual.result c.from_residual.ensures.1 in
    rw (q.1, q.2)
    (fault_is {A = Delta} c.args.rels.now c.args.bytes.now c.args.at (c.loop-byte.gate + 1) (at_atom_count c.loop-byte.invariant.read.0) (λ delta. at_gate (c.loop-byte.invariant.read.0 ++ atoms_in delta ∷ [])) c.in_err-delta.field-0.0
    (behind_open c.args.rels.now c.args.bytes.now c.args.at c.loop-byte.gate c.loop-byte.invariant.read.0 c.in-Some.byte c.in-Some.ensures.value (eq-eqb c.in-Some.byte 1 c.if-byte-ne-OPEN.false) c.loop-byte.invariant.read.2)
    (c.in_err-delta.ensures.read c.args.at c.loop-byte.invariant.read.0))

pub loop-byte-preserved : goal.loop-byte-preserved
loop-byte-preserved c =
    let records = c.loop-byte.invariant.read.0 in
    record {
      within = c.in_ok-delta.ensures.within;
      behind = omega (arith, c.in_ok-delta.ensures.behind, c.loop-byte.invariant.behind);
      read = (
        records ++ atoms_in c.in_ok-delta.delta ∷ [],
        deltas_push c.loop-byte.deltas.items _ records c.in_ok-delta.delta c.in_ok-delta.ensures.known c.loop-byte.invariant.read.1 c.in_ok-push_delta.ensures.ok,
        c.in_ok-delta.ensures.read c.args.at records
            (behind_open c.args.rels.now c.args.bytes.now c.args.at c.loop-byte.gate records c.in-Some.byte c.in-Some.ensures.value (eq-eqb c.in-Some.byte 1 c.if-byte-ne-OPEN.false) c.loop-byte.invariant.read.2),
      );
    }
