use Rattle.std.proofs.Common.{◌≡◌, ◌∙◌, List, ℕ, Err, inr, sym, ap, subst}
use Rattle.std.proofs.lemmas.Result.{err_from_is_err_and}
use Rattle.hera_meaning.specs.Commits.{after_all}
use Rattle.hera_meaning.specs.Deltas.{IsState}
use Rattle.rel_format.specs.Versions.{format_of}
use Rattle.commit_journal.specs.Halves.{HasPages, IsHalfTo, IsDamageOfHalf}
use Rattle.rel_format.specs.declared.version.Version.{Version}
use Rattle.hera_store.specs.declared.faults.OpenFault.TheVariants.{Damaged}
use Rattle.hera_store.specs.Standing.{Standing}
use Rattle.hera_meaning.proofs.CommitLaws.{state_after_all}
use Rattle.hera_store.proofs.Smashes.{pages_are}
use Rattle.hera_store.proofs.opening.store_of.Goals as goal

pub opened-requires : goal.opened-requires
opened-requires c = record { state = c.in_ok-base.ensures.pages.state; proper = c.in_ok-commits.ensures.proper }

pub returns-clause-held : goal.returns-clause-held
returns-clause-held c =
    let base = c.in_ok-base.base in
    let state = after_all base.state c.in_ok-commits.commits.items in
    let pages = pages_are c.args.bytes.items base c.in_ok-base.ensures.pages in
    let own = c.in_ok-base.ensures.pages.own in
    let held = c.in_ok-commits.ensures.held (subst (λ (l : List ℕ). HasPages (format_of base.version) l base.catalogue base.state base.journal) (sym own) pages) in
    subst (λ (s : Standing). IsHalfTo (format_of s.base.version) c.args.bytes.items s.base.catalogue (after_all s.base.state s.commits) s.end) (sym c.opened.ensures)
    (subst (λ (l : List ℕ). IsHalfTo (format_of base.version) l base.catalogue state c.in_ok-commits.end) own held)

pub returns-clause-state : goal.returns-clause-state
returns-clause-state c =
    let base = c.in_ok-base.base in
    subst (λ (s : Standing). IsState s.base.catalogue (after_all s.base.state s.commits)) (sym c.opened.ensures)
    (state_after_all base.catalogue base.state c.in_ok-commits.commits.items c.in_ok-base.ensures.pages.state c.in_ok-commits.ensures.proper)

pub returns-in_err-commits-clause-damaged : goal.returns-in_err-commits-clause-damaged
returns-in_err-commits-clause-damaged c = λ file at e.
    let base = c.in_ok-base.base in
    let pages = c.in_ok-base.ensures.pages in
    let q = err_from_is_err_and c.from_residual-in_err-commits.result c.from_residual-in_err-commits.ensures.1 in
    let is : Err c.in_err-commits.field-0.0 ≡ Err (Damaged file at) = sym (q.1 ∙ ap Err q.2) ∙ e in
    let fault : c.in_err-commits.field-0.0 ≡ Damaged file at = cc (is) in
    let damage = c.in_err-commits.ensures.damaged file at (ap Err fault) in
    let here = damage.1 (subst (λ (l : List ℕ). HasPages (format_of base.version) l base.catalogue base.state base.journal) (sym pages.own) (pages_are c.args.bytes.items base pages)) in
    (damage.0, inr (pages.short, subst (λ (v : Version). IsDamageOfHalf (format_of v) c.args.bytes.items at) pages.version (subst (λ (l : List ℕ). IsDamageOfHalf (format_of base.version) l at) pages.own here)))

pub returns-clause-read : goal.returns-clause-read
returns-clause-read c = subst (λ (s : Standing). s.base.bytes ≡ c.args.bytes.items) (sym c.opened.ensures) c.in_ok-base.ensures.pages.own
