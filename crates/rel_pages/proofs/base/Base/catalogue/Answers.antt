use Rattle.std.proofs.Common.{◌≡◌, length, subst}
use Rattle.hera_meaning.specs.Deltas.{IsState}
use Rattle.rel_format.specs.Versions.{format_of}
use Rattle.rel_pages.specs.Stored.{Stored}
use Rattle.rel_pages.proofs.States.{state_length}
use Rattle.rel_pages.proofs.Halves.{state_is}
use Rattle.rel_pages.proofs.base.Base.catalogue.Goals as goal

pub returns-clause-valid : goal.returns-clause-valid
returns-clause-valid c =
    subst (λ (b : Stored). IsState b.catalogue b.state) c.self.view_is (state_is (format_of c.self.inside.version).page c.self.inside.catalogue c.self.inside.parts.items c.self.inside.bytes.items c.self.invariant.0.parts_are)

pub returns-clause-relations : goal.returns-clause-relations
returns-clause-relations c =
    subst (λ (b : Stored). length b.state ≡ length b.catalogue) c.self.view_is
    (state_length c.self.inside.catalogue _ (state_is (format_of c.self.inside.version).page c.self.inside.catalogue c.self.inside.parts.items c.self.inside.bytes.items c.self.invariant.0.parts_are))
