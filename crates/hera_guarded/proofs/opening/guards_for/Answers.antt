use Rattle.hera_bind.proofs.Found.{missing_within}
use Rattle.hera_guarded.proofs.Named.{unknown_unruled, mismatched_unruled, differing_unruled, there_is}
use Rattle.hera_guarded.proofs.opening.guards_for.Goals as goal

pub differing-requires : goal.differing-requires
differing-requires g c = record { there = missing_within c.args.catalogue.now c.args.own.now c.in-Some.place c.in-Some.ensures }

pub returns-in-Err-Unknown-clause-unruled : goal.returns-in-Err-Unknown-clause-unruled
returns-in-Err-Unknown-clause-unruled g c =
    unknown_unruled c.args.hosts.now.names c.args.lines.now c.args.own.now c.args.catalogue.now c.in-Err-Unknown.field-0 c.in-Err-Unknown.at c.faulty.result c.in-None.ensures c.in-Err-Unknown.ensures.refused c.in-Err-Unknown.field-0-is c.faulty.ensures

pub returns-in-Err-Mismatch-clause-unruled : goal.returns-in-Err-Mismatch-clause-unruled
returns-in-Err-Mismatch-clause-unruled g c =
    mismatched_unruled c.args.hosts.now.names c.args.lines.now c.args.own.now c.args.catalogue.now c.in-Err-Mismatch.field-0 c.in-Err-Mismatch.at c.faulty-in-Err-Mismatch.result c.in-None.ensures c.in-Err-Mismatch.ensures.refused c.in-Err-Mismatch.field-0-is c.faulty-in-Err-Mismatch.ensures

pub returns-in-Some-clause-unruled : goal.returns-in-Some-clause-unruled
returns-in-Some-clause-unruled g c =
    let own = c.args.own.now in
    let (d, at) = there_is own c.in-Some.place (missing_within c.args.catalogue.now own c.in-Some.place c.in-Some.ensures) in
    differing_unruled c.args.hosts.now.names c.args.lines.now own c.args.catalogue.now c.in-Some.place d c.differing.result c.in-Some.ensures at (c.differing.ensures d at)
