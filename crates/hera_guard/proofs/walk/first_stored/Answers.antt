use Rattle.std.proofs.Common.{◌≡◌, ◌≤◌, ◌+◌, ◌++◌, Some, refl, sym, ap, ◌∙◌, subst, length, slice_get, arith}
use Rattle.hera_host.specs.Tables.{specs_of}
use Rattle.when_overlay.specs.Changed.{after_all}
use Rattle.when_overlay.specs.Layered.{path}
use Rattle.hera_guard.proofs.Walking.{relation_passes, relation_breaks, relations_end, suit_relation, rows_of_state}
use Rattle.hera_guard.proofs.Known.{first_known}
use Rattle.hera_guard.proofs.walk.first_stored.Goals as goal

pub loop-number-init : goal.loop-number-init
loop-number-init g c = refl

pub first_in-requires-clause-suit : goal.first_in-requires-clause-suit
first_in-requires-clause-suit g c =
    let n = c.loop-number.number in
    let there = subst (λ rels. slice_get rels n ≡ Some c.decl.result.now) c.catalogue-catalogue.ensures.catalogue c.decl.ensures.decl in
    suit_relation c.args.view.now.base.now.catalogue c.args.hosts.now.names c.args.guards.now n c.decl.result.now c.requires.guards there

pub first_in-requires-clause-rows : goal.first_in-requires-clause-rows
first_in-requires-clause-rows g c =
    let view = c.args.view.now in
    let state = after_all view.base.now.state (view.commits.now ++ path view.layers.now.layers view.tip) in
    let n = c.loop-number.number in
    let there = subst (λ rels. slice_get rels n ≡ Some c.decl.result.now) c.catalogue-catalogue.ensures.catalogue c.decl.ensures.decl in
    rows_of_state view.base.now.catalogue state n c.decl.result.now c.indexed.result c.requires.state there c.indexed.ensures

pub returns-in-Some-clause-known : goal.returns-in-Some-clause-known
returns-in-Some-clause-known g c =
    let view = c.args.view.now in
    let rels = view.base.now.catalogue in
    let hosts = specs_of c.args.hosts.now.names in
    let state = after_all view.base.now.state (view.commits.now ++ path view.layers.now.layers view.tip) in
    let n = c.loop-number.number in
    let there = subst (λ rels. slice_get rels n ≡ Some c.decl.result.now) c.catalogue-catalogue.ensures.catalogue c.decl.ensures.decl in
    first_known hosts c.args.guards.now rels state (Some c.in-Some.found) c.requires.state
    (relation_breaks hosts c.args.guards.now rels state n c.decl.result.now c.indexed.result c.in-Some.found there c.indexed.ensures (sym c.in_ok-found.ensures ∙ c.in-Some.is) ∙ c.loop-number.invariant)

pub returns-in-Some-clause-first : goal.returns-in-Some-clause-first
returns-in-Some-clause-first g c =
    let view = c.args.view.now in
    let rels = view.base.now.catalogue in
    let state = after_all view.base.now.state (view.commits.now ++ path view.layers.now.layers view.tip) in
    let n = c.loop-number.number in
    let there = subst (λ rels. slice_get rels n ≡ Some c.decl.result.now) c.catalogue-catalogue.ensures.catalogue c.decl.ensures.decl in
    relation_breaks (specs_of c.args.hosts.now.names) c.args.guards.now rels state n c.decl.result.now c.indexed.result c.in-Some.found there c.indexed.ensures (sym c.in_ok-found.ensures ∙ c.in-Some.is) ∙ c.loop-number.invariant

pub loop-number-preserved : goal.loop-number-preserved
loop-number-preserved g c =
    let view = c.args.view.now in
    let rels = view.base.now.catalogue in
    let state = after_all view.base.now.state (view.commits.now ++ path view.layers.now.layers view.tip) in
    let n = c.loop-number.number in
    let there = subst (λ rels. slice_get rels n ≡ Some c.decl.result.now) c.catalogue-catalogue.ensures.catalogue c.decl.ensures.decl in
    relation_passes (specs_of c.args.hosts.now.names) c.args.guards.now rels state n (n + 1) c.decl.result.now c.indexed.result refl there c.indexed.ensures (sym c.in_ok-found.ensures ∙ c.in_default.is) ∙ c.loop-number.invariant

pub returns-clause-first : goal.returns-clause-first
returns-clause-first g c =
    let view = c.args.view.now in
    let rels = view.base.now.catalogue in
    let state = after_all view.base.now.state (view.commits.now ++ path view.layers.now.layers view.tip) in
    let n = c.loop-number.number in
    let count : length c.catalogue-catalogue.result.now ≡ length rels = ap length c.catalogue-catalogue.ensures.catalogue in
    let all : length rels ≤ n = omega (arith, count, c.len-number-end.ensures.count, c.loop-number-test.false) in
    sym (relations_end (specs_of c.args.hosts.now.names) c.args.guards.now rels state n all) ∙ c.loop-number.invariant
