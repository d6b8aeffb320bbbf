use Rattle.std.proofs.Common.{◌≡◌, ◌+◌}
use Rattle.std.specs.Option.{option_map}
use Rattle.delta_atoms.specs.Refs.{atom_in}
use Rattle.commit_journal.proofs.Steps.{past_before, schema_here, to_rel, no_sign, to_row, no_rel, behind_row, no_row, third}
use Rattle.commit_journal.proofs.scanning.atom_at.Goals as goal

pub returns-in_default-clause-read : goal.returns-in_default-clause-read
returns-in_default-clause-read c =
    rw c.damaged.ensures (λ start o more last r. no_sign c.args.rels.now c.args.bytes.now start c.args.at o more c.in_default.ensures.value r)

pub returns-in_default-rel_at-clause-read : goal.returns-in_default-rel_at-clause-read
returns-in_default-rel_at-clause-read c =
    rw c.damaged-in_default-rel_at.ensures
    (λ start o more last r. no_rel c.args.rels.now c.args.bytes.now start (c.args.at + 1) c.len.result o more c.in-Some.sign (option_map atom_in c.args.before) c.len.ensures.count last c.in_default-rel_at.ensures.value
    (to_rel c.args.rels.now c.args.bytes.now start c.args.at o more c.in-Some.sign c.in-Some.ensures.value r))

pub returns-in_default-row_at-clause-read : goal.returns-in_default-row_at-clause-read
returns-in_default-row_at-clause-read c =
    rw c.damaged-in_default-row_at.ensures
    (λ start o more last r. no_row c.args.rels.now c.args.bytes.now start (c.args.at + 3) o more c.in-Some.sign (option_map atom_in c.args.before) c.decl.result.now.schema c.in-Some-rel_at.rel
    (schema_here c.args.rels.now c.in-Some-rel_at.rel c.decl.result.now c.decl.ensures.decl) last c.in_default-row_at.ensures.row
    (third c.args.rels.now c.args.bytes.now start c.args.at _ (to_row c.args.rels.now c.args.bytes.now start (c.args.at + 1) c.len.result o more c.in-Some.sign (option_map atom_in c.args.before) c.in-Some-rel_at.rel c.len.ensures.count last c.in-Some-rel_at.ensures.value
    (to_rel c.args.rels.now c.args.bytes.now start c.args.at o more c.in-Some.sign c.in-Some.ensures.value r))))

pub returns-clause-past : goal.returns-clause-past
returns-clause-past c = past_before c.args.before c.in-Some-rel_at.rel c.in-Some-row_at.row.now c.in-Some-rel_at.ensures.follows c.in-Some-row_at.ensures.keeps

pub returns-clause-read : goal.returns-clause-read
returns-clause-read c = λ start o more last r.
    behind_row c.args.rels.now c.args.bytes.now start (c.args.at + 3) o more c.in-Some.sign (option_map atom_in c.args.before) c.decl.result.now.schema c.in-Some-rel_at.rel c.in-Some-row_at.row.now
    (schema_here c.args.rels.now c.in-Some-rel_at.rel c.decl.result.now c.decl.ensures.decl) last c.in-Some-row_at.ensures.row
    (third c.args.rels.now c.args.bytes.now start c.args.at _ (to_row c.args.rels.now c.args.bytes.now start (c.args.at + 1) c.len.result o more c.in-Some.sign (option_map atom_in c.args.before) c.in-Some-rel_at.rel c.len.ensures.count last c.in-Some-rel_at.ensures.value
    (to_rel c.args.rels.now c.args.bytes.now start c.args.at o more c.in-Some.sign c.in-Some.ensures.value r)))
