use Rattle.std.proofs.Common.{◌≡◌, ◌∙◌, refl, ap, get_or, length, arith}
use Rattle.std.proofs.lemmas.Option.{slice_get_read}
use Rattle.hera_print.proofs.Picked.{name_at, schema_at}
use Rattle.hera_print.proofs.deltas.decl_of.Goals as goal

pub returns-clause-name : goal.returns-clause-name
returns-clause-name c =
    let place : c.from.result ≡ c.args.rel.0 = omega (arith, c.from.ensures) in
    name_at c.args.catalogue.now c.args.rel.0 c.index-catalogue-from.result
    (slice_get_read c.args.catalogue.now (length c.args.catalogue.now) c.args.rel.0 c.index-catalogue-from.result refl c.requires (c.index-catalogue-from.is ∙ ap (λ i. get_or c.args.catalogue.now i c.index-catalogue-from.result) place))

pub returns-clause-schema : goal.returns-clause-schema
returns-clause-schema c =
    let place : c.from.result ≡ c.args.rel.0 = omega (arith, c.from.ensures) in
    schema_at c.args.catalogue.now c.args.rel.0 c.index-catalogue-from.result
    (slice_get_read c.args.catalogue.now (length c.args.catalogue.now) c.args.rel.0 c.index-catalogue-from.result refl c.requires (c.index-catalogue-from.is ∙ ap (λ i. get_or c.args.catalogue.now i c.index-catalogue-from.result) place))
