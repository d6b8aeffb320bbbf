use Rattle.hera_verify.proofs.laws.typed_code_is_never_rejected.Goals as goal

pub returns : goal.returns
returns c code rels hosts notes points typed at rejected = rejected.breaks points (typed at)
