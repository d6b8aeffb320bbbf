use Rattle.std.proofs.Common.{◌<◌, ◌∙◌, true, false, sym, length, arith}
use Rattle.hera_sets.specs.Rows.{is_same}
use Rattle.hera_guard_lines.proofs.Named.{found_within, no_relation, no_attribute, no_host, with_host, guard_suits}
use Rattle.hera_guard_lines.proofs.naming.guard_of.Goals as goal

pub returns-in_default-clause-faulty : goal.returns-in_default-clause-faulty
returns-in_default-clause-faulty g c = no_relation c.args.catalogue.now c.args.hosts.now.names c.args.line.now c.bytes-relation.result.now c.bytes-relation.ensures.bytes (sym c.in_default.ensures.number)

pub decl-decl-requires : goal.decl-decl-requires
decl-decl-requires g c =
    let within = found_within (λ d. is_same c.bytes-relation.result.now d.name) 0 c.args.catalogue.now c.in-Some.rel.0 (sym c.in-Some.ensures.number) in omega (arith, within)

pub returns-in_default-position-clause-faulty : goal.returns-in_default-position-clause-faulty
returns-in_default-position-clause-faulty g c =
    no_attribute c.args.catalogue.now c.args.hosts.now.names c.args.line.now c.bytes-relation.result.now c.bytes-attribute.result.now c.in-Some.rel.0 c.decl-decl.result.now c.bytes-relation.ensures.bytes (sym c.in-Some.ensures.number) c.decl-decl.ensures.decl
    c.bytes-attribute.ensures.bytes (sym c.in_default-position.ensures.place)

pub returns-in_default-find-clause-faulty : goal.returns-in_default-find-clause-faulty
returns-in_default-find-clause-faulty g c =
    no_host c.args.catalogue.now c.args.hosts.now.names c.args.line.now c.bytes-relation.result.now c.bytes-attribute.result.now c.bytes-host_name.result.now c.in-Some.rel.0 c.in-Some-position.place c.decl-decl.result.now c.bytes-relation.ensures.bytes (sym c.in-Some.ensures.number) c.decl-decl.ensures.decl
    c.bytes-attribute.ensures.bytes (sym c.in-Some-position.ensures.place) c.bytes-host_name.ensures.bytes (sym c.in_default-find.ensures.number)

pub fits-fit-requires-clause-place : goal.fits-fit-requires-clause-place
fits-fit-requires-clause-place g c =
    let within = found_within (λ a. is_same c.bytes-attribute.result.now a.name) 0 c.decl-decl.result.now.schema c.in-Some-position.place (sym c.in-Some-position.ensures.place) in omega (arith, within)

pub returns-then-fit-clause-means : goal.returns-then-fit-clause-means
returns-then-fit-clause-means g c =
    with_host c.args.catalogue.now c.args.hosts.now.names c.args.line.now c.bytes-relation.result.now c.bytes-attribute.result.now c.bytes-host_name.result.now c.in-Some.rel.0 c.in-Some-position.place c.in-Some-find.host c.decl-decl.result.now true c.bytes-relation.ensures.bytes (sym c.in-Some.ensures.number) c.decl-decl.ensures.decl
    c.bytes-attribute.ensures.bytes (sym c.in-Some-position.ensures.place) c.bytes-host_name.ensures.bytes (sym c.in-Some-find.ensures.number) (sym c.fits-fit.ensures ∙ c.if-fit.true)

pub returns-then-fit-clause-suits : goal.returns-then-fit-clause-suits
returns-then-fit-clause-suits g c =
    let found = found_within (λ a. is_same c.bytes-attribute.result.now a.name) 0 c.decl-decl.result.now.schema c.in-Some-position.place (sym c.in-Some-position.ensures.place) in
    let within : c.in-Some-position.place < length c.decl-decl.result.now.schema = omega (arith, found) in
    guard_suits c.args.catalogue.now c.args.hosts.now.names c.in-Some.rel.0 c.in-Some-position.place c.in-Some-find.host c.decl-decl.result.now c.decl-decl.ensures.decl within c.in-Some-find.ensures.within (sym c.fits-fit.ensures ∙ c.if-fit.true)

pub returns-else-fit-clause-faulty : goal.returns-else-fit-clause-faulty
returns-else-fit-clause-faulty g c =
    with_host c.args.catalogue.now c.args.hosts.now.names c.args.line.now c.bytes-relation.result.now c.bytes-attribute.result.now c.bytes-host_name.result.now c.in-Some.rel.0 c.in-Some-position.place c.in-Some-find.host c.decl-decl.result.now false c.bytes-relation.ensures.bytes (sym c.in-Some.ensures.number) c.decl-decl.ensures.decl
    c.bytes-attribute.ensures.bytes (sym c.in-Some-position.ensures.place) c.bytes-host_name.ensures.bytes (sym c.in-Some-find.ensures.number) (sym c.fits-fit.ensures ∙ c.if-fit.false)
