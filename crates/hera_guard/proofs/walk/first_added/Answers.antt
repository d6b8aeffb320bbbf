use Rattle.std.proofs.Common.{◌≤◌, ◌+◌, Some, refl, sym, ap, ◌∙◌, subst, length, arith}
use Rattle.std.specs.Prelude.{All}
use Rattle.hera_meaning.specs.Rows.{IsRow}
use Rattle.delta_atoms.specs.Atoms.{atoms_in}
use Rattle.hera_host.specs.Tables.{specs_of}
use Rattle.hera_guard.specs.Guards.{added_of}
use Rattle.hera_guard.proofs.Walking.{relation_passes, relation_breaks, relations_end, suit_relation, added_rows_at, added_rows_known}
use Rattle.hera_guard.proofs.Known.{first_known, added_is_state}
use Rattle.hera_guard.proofs.walk.first_added.Goals as goal

pub loop-number-init : goal.loop-number-init
loop-number-init g c = refl

pub first_in-requires-clause-suit : goal.first_in-requires-clause-suit
first_in-requires-clause-suit g c = suit_relation c.args.catalogue.now c.args.hosts.now.names c.args.guards.now c.loop-number.number c.decl.result.now c.requires.guards c.decl.ensures.decl

pub first_in-requires-clause-rows : goal.first_in-requires-clause-rows
first_in-requires-clause-rows g c =
    subst (λ rows. All (IsRow c.decl.result.now.schema) rows) (sym c.part.ensures.rows)
    (added_rows_known c.args.catalogue.now c.args.delta.now c.loop-number.number c.decl.result.now c.requires.rows c.decl.ensures.decl)

pub returns-in-Some-clause-known : goal.returns-in-Some-clause-known
returns-in-Some-clause-known g c =
    let rels = c.args.catalogue.now in
    let delta = c.args.delta.now in
    let hosts = specs_of c.args.hosts.now.names in
    let n = c.loop-number.number in
    let held = added_rows_at rels (atoms_in delta) n c.decl.result.now c.decl.ensures.decl ∙ ap Some (sym c.part.ensures.rows) in
    first_known hosts c.args.guards.now rels (added_of rels delta) (Some c.in-Some.found) (added_is_state rels delta c.part.ensures.valid c.requires.rows)
    (relation_breaks hosts c.args.guards.now rels (added_of rels delta) n c.decl.result.now c.part.result.now c.in-Some.found c.decl.ensures.decl held (sym c.in_ok-found.ensures ∙ c.in-Some.is) ∙ c.loop-number.invariant)

pub returns-in-Some-clause-first : goal.returns-in-Some-clause-first
returns-in-Some-clause-first g c =
    let rels = c.args.catalogue.now in
    let delta = c.args.delta.now in
    let n = c.loop-number.number in
    let held = added_rows_at rels (atoms_in delta) n c.decl.result.now c.decl.ensures.decl ∙ ap Some (sym c.part.ensures.rows) in
    relation_breaks (specs_of c.args.hosts.now.names) c.args.guards.now rels (added_of rels delta) n c.decl.result.now c.part.result.now c.in-Some.found c.decl.ensures.decl held (sym c.in_ok-found.ensures ∙ c.in-Some.is) ∙ c.loop-number.invariant

pub loop-number-preserved : goal.loop-number-preserved
loop-number-preserved g c =
    let rels = c.args.catalogue.now in
    let delta = c.args.delta.now in
    let n = c.loop-number.number in
    let held = added_rows_at rels (atoms_in delta) n c.decl.result.now c.decl.ensures.decl ∙ ap Some (sym c.part.ensures.rows) in
    relation_passes (specs_of c.args.hosts.now.names) c.args.guards.now rels (added_of rels delta) n (n + 1) c.decl.result.now c.part.result.now refl c.decl.ensures.decl held (sym c.in_ok-found.ensures ∙ c.in_default.is) ∙ c.loop-number.invariant

pub returns-clause-first : goal.returns-clause-first
returns-clause-first g c =
    let rels = c.args.catalogue.now in
    let n = c.loop-number.number in
    let all : length rels ≤ n = omega (arith, c.len-number-end.ensures.count, c.loop-number-test.false) in
    sym (relations_end (specs_of c.args.hosts.now.names) c.args.guards.now rels (added_of rels c.args.delta.now) n all) ∙ c.loop-number.invariant
