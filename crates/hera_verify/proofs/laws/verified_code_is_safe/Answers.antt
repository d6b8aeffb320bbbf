use Rattle.hera_verify.proofs.laws.verified_code_is_safe.Goals as goal

pub returns : goal.returns
returns c code rels hosts notes verified fit specs s n state = c.typed_code_is_safe.ensures code rels hosts notes verified.0 verified.1 fit specs s n state
