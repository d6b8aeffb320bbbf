use Rattle.std.proofs.Common.{◌∙◌, List, ℕ, Option, Some, Err, inl, inr, ⊎_elim, sym, ap, subst}
use Rattle.std.proofs.lemmas.Result.{err_from_is_err_and}
use Rattle.std.specs.Io.KnownBytes.{Keeps}
use Rattle.rel_format.specs.Versions.{IsHalfOf}
use Rattle.rel_pages.specs.Stored.{empty_state}
use Rattle.hera_volume.proofs.Moments.{leaves-none, leaves-weaker}
use Rattle.hera_store.specs.Databases.{empty_database}
use Rattle.hera_store.proofs.Readings.{read_none_or}
use Rattle.hera_volume.specs.declared.file_id.FileId.TheVariants.{Select}
use Rattle.hera_store.proofs.making.init_store.Goals as goal

pub returns-in_err-find_none-clause-named : goal.returns-in_err-find_none-clause-named
returns-in_err-find_none-clause-named g c = λ told gave.
    let q = err_from_is_err_and c.from_residual.result c.from_residual.ensures.1 in
    let is = q.1 ∙ ap Err q.2 in
    (c.in_err-find_none.ensures.named told (λ d. ⊎_elim (λ e. (let bad = sym e ∙ is ∙ d in cc (bad))) (λ e. (let bad = sym e ∙ is ∙ d in cc (bad))) gave)).1

pub returns-in_err-bytes-clause-named : goal.returns-in_err-bytes-clause-named
returns-in_err-bytes-clause-named g c = λ told gave. (c.in_ok-find_none.ensures.named told (λ e. cc)).1

pub returns-in_err-find_none-clause-any_moment : goal.returns-in_err-find_none-clause-any_moment
returns-in_err-find_none-clause-any_moment g c = λ told vacant sound.
    let q = err_from_is_err_and c.from_residual.result c.from_residual.ensures.1 in
    let is = q.1 ∙ ap Err q.2 in
    let named = c.in_err-find_none.ensures.named told (λ d. sound (is ∙ d)) in
    record { between = c.find_none.new.outside; before = c.find_none.ensures.untouched told; settled = named.0; named = named.1; behind = leaves-none _ _ c.find_none.new.outside _ }

pub returns-in_err-bytes-clause-any_moment : goal.returns-in_err-bytes-clause-any_moment
returns-in_err-bytes-clause-any_moment g c = λ told vacant sound.
    let named = c.in_ok-find_none.ensures.named told (λ e. cc) in
    record { between = c.find_none.new.outside; before = c.find_none.ensures.untouched told; settled = named.0; named = named.1; behind = leaves-none _ _ c.find_none.new.outside _ }

pub returns-in_err-find_none-clause-failing : goal.returns-in_err-find_none-clause-failing
returns-in_err-find_none-clause-failing g c = λ told vacant fails.
    let q = err_from_is_err_and c.from_residual.result c.from_residual.ensures.1 in
    let is = q.1 ∙ ap Err q.2 in
    ⊎_elim
    (λ named. inl (record { between = c.find_none.new.outside; before = c.find_none.ensures.untouched told; settled = named.0; named = named.1; behind = leaves-none _ _ c.find_none.new.outside _ }))
    (λ unsynced. inr (c.find_none.ensures.untouched told, unsynced))
    (c.in_err-find_none.ensures.failing told (sym is ∙ fails))

pub returns-in_err-fill_files-clause-failing : goal.returns-in_err-fill_files-clause-failing
returns-in_err-fill_files-clause-failing g c = λ told vacant fails.
    let rels = c.args.catalogue.now in
    let half = subst (λ (l : List ℕ). IsHalfOf l rels (empty_state rels)) (sym c.deref.ensures.value) c.in_ok-bytes.ensures.valid in
    inl (record {
      between = c.find_none.new.outside;
      before = c.find_none.ensures.untouched told;
      settled = (c.in_ok-find_none.ensures.named told (λ e. cc)).0;
      named = (c.in_ok-find_none.ensures.named told (λ e. cc)).1;
      behind = leaves-weaker _ _ (c.fill_files.ensures.any_moment told (empty_database rels) half) (λ i none. record {
        found = none.found;
        emitted = subst (λ (e : Option (List ℕ)). Keeps e (Some i.emitted)) c.find_none.ensures.emitted none.emitted;
      });
    })

pub returns-in_err-find_none-clause-stopped : goal.returns-in_err-find_none-clause-stopped
returns-in_err-find_none-clause-stopped g c = λ told some fails.
    let q = err_from_is_err_and c.from_residual.result c.from_residual.ensures.1 in
    let is = q.1 ∙ ap Err q.2 in
    ⊎_elim (λ named. inl named.1) (λ unsynced. inr unsynced) (c.in_err-find_none.ensures.failing told (sym is ∙ fails))

pub returns-clause-any_moment : goal.returns-clause-any_moment
returns-clause-any_moment g c = λ told vacant sound.
    let rels = c.args.catalogue.now in
    let half = subst (λ (l : List ℕ). IsHalfOf l rels (empty_state rels)) (sym c.deref.ensures.value) c.in_ok-bytes.ensures.valid in
    record {
      between = c.find_none.new.outside;
      before = c.find_none.ensures.untouched told;
      settled = (c.in_ok-find_none.ensures.named told (λ e. cc)).0;
      named = (c.in_ok-find_none.ensures.named told (λ e. cc)).1;
      behind = leaves-weaker _ _ (c.fill_files.ensures.any_moment told (empty_database rels) half) (λ i none. record {
        found = none.found;
        emitted = subst (λ (e : Option (List ℕ)). Keeps e (Some i.emitted)) c.find_none.ensures.emitted none.emitted;
      });
    }

pub returns-in_err-find_none-clause-reads : goal.returns-in_err-find_none-clause-reads
returns-in_err-find_none-clause-reads g c = λ told vacant. inl ((c.find_none.ensures.untouched told).reads Select ∙ vacant)

pub returns-in_err-bytes-clause-reads : goal.returns-in_err-bytes-clause-reads
returns-in_err-bytes-clause-reads g c = λ told vacant. inl ((c.find_none.ensures.untouched told).reads Select ∙ vacant)

pub returns-in_err-fill_files-clause-reads : goal.returns-in_err-fill_files-clause-reads
returns-in_err-fill_files-clause-reads g c = λ told vacant.
    let rels = c.args.catalogue.now in
    let half = subst (λ (l : List ℕ). IsHalfOf l rels (empty_state rels)) (sym c.deref.ensures.value) c.in_ok-bytes.ensures.valid in
    read_none_or g.W.Outside.told g.W.Outside.disk g.W.Output.emitted g.W.Outside.moment g.W.Outside.left_since g.met.W.Outside.as_read g.met.W.Outside.only_now g.met.W.Outside.counts_now told c.find_none.new.outside c.fill_files.new.outside (empty_database rels)
    (c.in_ok-find_none.ensures.settled told) ((c.find_none.ensures.untouched told).reads Select ∙ vacant) (c.fill_files.ensures.any_moment told (empty_database rels) half)

pub returns-clause-reads : goal.returns-clause-reads
returns-clause-reads g c = λ told vacant.
    let rels = c.args.catalogue.now in
    let half = subst (λ (l : List ℕ). IsHalfOf l rels (empty_state rels)) (sym c.deref.ensures.value) c.in_ok-bytes.ensures.valid in
    read_none_or g.W.Outside.told g.W.Outside.disk g.W.Output.emitted g.W.Outside.moment g.W.Outside.left_since g.met.W.Outside.as_read g.met.W.Outside.only_now g.met.W.Outside.counts_now told c.find_none.new.outside c.fill_files.new.outside (empty_database rels)
    (c.in_ok-find_none.ensures.settled told) ((c.find_none.ensures.untouched told).reads Select ∙ vacant) (c.fill_files.ensures.any_moment told (empty_database rels) half)
