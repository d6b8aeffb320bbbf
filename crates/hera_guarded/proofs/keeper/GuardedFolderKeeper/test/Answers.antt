use Rattle.std.proofs.Common.{◌≡◌, ℕ, List, Option, IfOk, ap, ◌∙◌, subst}
use Rattle.hera_meaning.specs.declared.schemas.RelDecl.{RelDecl}
use Rattle.rel_pages.specs.Stored.{Stored}
use Rattle.hera_store.specs.Standing.{database_of}
use Rattle.hera_guard.specs.Guards.{added_of}
use Rattle.hera_guard.specs.Guarded.{refusal_of}
use Rattle.hera_guarded.proofs.Kept.{line_added}
use Rattle.hera_guarded.proofs.keeper.GuardedFolderKeeper.test.Goals as goal

pub returns : goal.returns
returns g c =
    let rules = c.args.self.now.rules in
    let names = rules.hosts.now.names in
    let store = c.args.self.now.kept.store in
    let delta = c.args.delta.now in
    let ready = c.requires.ready in
    let same : c.catalogue.result.now ≡ store.base.catalogue = c.catalogue.ensures.catalogue ∙ ap (λ (b : Stored). b.catalogue) c.base.ensures.base in
    record {
      refusal = subst (λ (x : Option (List ℕ)). IfOk c.added.result (λ line. line ≡ x))
          (ap (λ (rels : List RelDecl). refusal_of names rules.table rels (added_of rels delta)) same
          ∙ line_added c.added_rows_suffice.ensures.first names rules.table store.base.catalogue (database_of store).state delta ready.state c.is_fail.ensures.valid ready.unbroken) c.added.ensures.line;
    }
