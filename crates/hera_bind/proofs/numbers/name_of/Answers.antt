use Rattle.std.proofs.Common.{sym, ◌∙◌, refl, length}
use Rattle.std.proofs.lemmas.Option.{slice_get_read, slice_get_past}
use Rattle.std.proofs.lemmas.Bool.{ltb-true, ltb-false}
use Rattle.hera_bind.proofs.Found.{name_here, no_name}
use Rattle.hera_bind.proofs.numbers.name_of.Goals as goal

pub returns-in-Some : goal.returns-in-Some
returns-in-Some c =
    c.bytes.ensures.bytes ∙ name_here c.args.own.now c.args.rel.0 c.in-Some.decl.now (slice_get_read c.args.own.now (length c.args.own.now) c.args.rel.0 c.in-Some.decl.now refl (ltb-true _ _ (sym c.in-Some.ensures.lookup.0)) c.in-Some.ensures.lookup.1)

pub returns-in-None : goal.returns-in-None
returns-in-None c =
    no_name c.args.own.now c.args.rel.0 (slice_get_past c.args.own.now c.args.rel.0 (ltb-false _ _ (sym c.in-None.ensures.lookup.0)))
