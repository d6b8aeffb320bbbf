use Rattle.rel_format.proofs.Names.{test_is, identifier_true, identifier_passes}
use Rattle.rel_format.specs.Fields.{is_identifier}
use Rattle.rel_format.proofs.fields.is_identifier.Goals as goal

pub returns-clause-test : goal.returns-clause-test
returns-clause-test c = test_is c.is_name.result (is_identifier c.args.name.now) (λ h. identifier_passes c.args.name.now (c.is_name.ensures.0 h)) (λ h. c.is_name.ensures.1 (identifier_true c.args.name.now h))
