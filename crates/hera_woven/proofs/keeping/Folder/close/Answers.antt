use Rattle.std.proofs.Common.{◌≡◌, ◌∙◌, ◌++◌, ◌∷◌, [], ℕ, List, ap, sym, subst}
use Rattle.hera_meaning.specs.Deltas.{apply_of}
use Rattle.hera_meaning.specs.Worlds.{out, store}
use Rattle.hera_sessions.specs.Weaving.{session_line}
use Rattle.hera_store.specs.Standing.{database_of}
use Rattle.hera_outcome.specs.Passages.{passage}
use Rattle.hera_weave.specs.Standing.{outcome_in}
use Rattle.hera_weave.specs.declared.weave.WeaveEvent.{WeaveEvent}
use Rattle.hera_woven.specs.Going.{Carries, closing}
use Rattle.hera_woven.proofs.keeping.Folder.close.Goals as goal

pub returns-in_ok-line-in-Commit-clause-carries : goal.returns-in_ok-line-in-Commit-clause-carries
returns-in_ok-line-in-Commit-clause-carries g c =
    let s = c.args.self.now.store in
    let db = database_of s in
    let v = passage g.W.Output g.W.Outside c.args.outside.now c.commit.new.outside in
    let line : c.bytes-in-Commit.result.now ≡ session_line c.args.session ++ c.in-Commit.text = c.bytes-in-Commit.ensures ∙ c.in_ok-line-in-Commit.ensures ∙ ap (λ (l : List ℕ). session_line c.args.session ++ l) c.bytes.ensures in
    subst (λ (e : WeaveEvent). Carries (closing db.state c.args.session (outcome_in e)) s c.commit.new.self.store c.commit.result v) (sym c.in-Commit.is)
    (subst (λ (l : List ℕ). Carries (store (apply_of db.state c.in-Commit.delta) c.in-Commit.delta ∷ out l ∷ []) s c.commit.new.self.store c.commit.result v) line c.commit.ensures.carries)
