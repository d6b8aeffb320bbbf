use Rattle.std.proofs.Common.{◌∙◌, ap}
use Rattle.rel_pages.specs.Stored.{Stored}
use Rattle.hera_transfer.proofs.Named.{within_if}
use Rattle.hera_transfer.proofs.naming.relation_named.Goals as goal

pub returns-clause-within : goal.returns-clause-within
returns-clause-within c = within_if c.find.result c.args.name.now c.catalogue.result.now c.args.store.now.base.catalogue c.find.ensures.number (c.catalogue.ensures.catalogue ∙ ap (λ (b : Stored). b.catalogue) c.base.ensures.base)
