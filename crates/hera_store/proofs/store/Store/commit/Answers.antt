use Rattle.std.proofs.Common.{◌≡◌, ◌≤◌, ◌∙◌, inl, false, List, [], ◌∷◌, ◌++◌, sym, ap, subst, arith}
use Rattle.std.proofs.lemmas.List.Elements.{All-push}
use Rattle.std.specs.Prelude.{All}
use Rattle.hera_meaning.specs.Commits.{IsCommitOf}
use Rattle.hera_meaning.specs.Deltas.{Delta, IsDeltaOf}
use Rattle.delta_atoms.specs.Atoms.{atoms_in}
use Rattle.hera_volume.specs.Time.{LeavesOnly}
use Rattle.hera_volume.proofs.Moments.{leaves-weaker}
use Rattle.commit_journal.specs.Prepare.{need_of}
use Rattle.rel_format.specs.Journal.{half_limit}
use Rattle.hera_store.specs.Standing.{Standing, StandsFor, database_of, database_after}
use Rattle.hera_store.specs.Moments.{IsEither}
use Rattle.hera_store.proofs.Commits.{is_either, stands_after, stands_holds}
use Rattle.hera_store.proofs.Readings.{read_either}
use Rattle.hera_store.proofs.store.Store.commit.Goals as goal

pub invariant_of-self-in-Ok : goal.invariant_of-self-in-Ok
invariant_of-self-in-Ok g c =
    let s = c.self.inside in
    let known : IsDeltaOf s.base.catalogue c.args.delta = subst (λ (x : Standing). IsDeltaOf x.base.catalogue c.args.delta) (sym c.self.view_is) c.requires.known in
    let commits : c.push.new.self.items ≡ s.commits.items ++ c.args.delta ∷ [] = rw c.unwrap.ensures at c.push.ensures.items ∙ ap (λ (l : List Delta). l ++ c.args.delta ∷ []) c.reserve.ensures.items in
    record {
      state = c.self.invariant.state;
      proper = subst (All (IsCommitOf s.base.catalogue)) (sym commits) (All-push (IsCommitOf s.base.catalogue) s.commits.items c.args.delta c.self.invariant.proper (record { proper = c.requires.proper; known = known }));
    }

pub returns-in-Ok-clause-stands : goal.returns-in-Ok-clause-stands
returns-in-Ok-clause-stands g c = λ told opens.
    let inside = c.self.inside in
    let s : Standing = record { base = inside.base; commits = inside.commits.items; half = inside.half; end = inside.end; closed = inside.closed } in
    let disks = g.W.Outside.disk c.args.outside.now in
    let now = g.W.Outside.disk c.seal.new.outside in
    let known : IsDeltaOf s.base.catalogue c.args.delta = subst (λ (x : Standing). IsDeltaOf x.base.catalogue c.args.delta) (sym c.self.view_is) c.requires.known in
    let commits : c.push.new.self.items ≡ s.commits ++ c.args.delta ∷ [] = rw c.unwrap.ensures at c.push.ensures.items ∙ ap (λ (l : List Delta). l ++ c.args.delta ∷ []) c.reserve.ensures.items in
    let stands : StandsFor disks s = subst (StandsFor disks) (sym c.self.view_is) (c.requires.stands told (subst (λ (x : Standing). x.closed ≡ false) c.self.view_is opens)) in
    let fits : need_of (atoms_in c.args.delta) s.end ≤ half_limit = omega (arith, c.in_ok-prepared.ensures.fits, c.requires.limit) in
    subst (λ (l : List Delta). StandsFor now (record { base = s.base; commits = l; half = s.half; end = c.in_ok-prepared.next; closed = s.closed })) (sym commits)
    (stands_after disks s c.args.delta stands c.requires.proper c.in_ok-prepared.ensures.delta known fits now c.in_ok-prepared.next (c.in-Ok.ensures.settled told)
    (rw (c.in_ok-prepared.ensures.end, c.in_ok-prepared.ensures.body) at (c.in-Ok.ensures.sealed told))
    (rw (c.in_ok-prepared.ensures.end, c.in_ok-prepared.ensures.body) at (c.in-Ok.ensures.no_longer told))
    (c.seal.ensures.others told) c.in_ok-prepared.ensures.next)

pub returns-in-Ok-clause-any_moment : goal.returns-in-Ok-clause-any_moment
returns-in-Ok-clause-any_moment g c = λ told opens.
    let inside = c.self.inside in
    let s : Standing = record { base = inside.base; commits = inside.commits.items; half = inside.half; end = inside.end; closed = inside.closed } in
    let disks = g.W.Outside.disk c.args.outside.now in
    let so_far = g.W.Output.emitted c.args.outside.now in
    let known : IsDeltaOf s.base.catalogue c.args.delta = subst (λ (x : Standing). IsDeltaOf x.base.catalogue c.args.delta) (sym c.self.view_is) c.requires.known in
    let stands : StandsFor disks s = subst (StandsFor disks) (sym c.self.view_is) (c.requires.stands told opens) in
    let fits : need_of (atoms_in c.args.delta) s.end ≤ half_limit = omega (arith, c.in_ok-prepared.ensures.fits, c.requires.limit) in
    subst (λ (x : Standing). LeavesOnly g.W.Outside.moment g.W.Outside.left_since c.args.outside.now c.seal.new.outside (IsEither (database_of x) (database_after x c.args.delta) so_far)) c.self.view_is
    (leaves-weaker _ _ (rw (c.in_ok-prepared.ensures.end, c.in_ok-prepared.ensures.body) at (c.seal.ensures.any_moment told)) (λ i image. is_either disks s c.args.delta stands c.requires.proper c.in_ok-prepared.ensures.delta known fits so_far i image))

pub returns-in-Err-clause-any_moment : goal.returns-in-Err-clause-any_moment
returns-in-Err-clause-any_moment g c = λ told opens.
    let inside = c.self.inside in
    let s : Standing = record { base = inside.base; commits = inside.commits.items; half = inside.half; end = inside.end; closed = inside.closed } in
    let disks = g.W.Outside.disk c.args.outside.now in
    let so_far = g.W.Output.emitted c.args.outside.now in
    let known : IsDeltaOf s.base.catalogue c.args.delta = subst (λ (x : Standing). IsDeltaOf x.base.catalogue c.args.delta) (sym c.self.view_is) c.requires.known in
    let stands : StandsFor disks s = subst (StandsFor disks) (sym c.self.view_is) (c.requires.stands told opens) in
    let fits : need_of (atoms_in c.args.delta) s.end ≤ half_limit = omega (arith, c.in_ok-prepared.ensures.fits, c.requires.limit) in
    subst (λ (x : Standing). LeavesOnly g.W.Outside.moment g.W.Outside.left_since c.args.outside.now c.seal.new.outside (IsEither (database_of x) (database_after x c.args.delta) so_far)) c.self.view_is
    (leaves-weaker _ _ (rw (c.in_ok-prepared.ensures.end, c.in_ok-prepared.ensures.body) at (c.seal.ensures.any_moment told)) (λ i image. is_either disks s c.args.delta stands c.requires.proper c.in_ok-prepared.ensures.delta known fits so_far i image))

pub returns-in_err-reserve-clause-reads : goal.returns-in_err-reserve-clause-reads
returns-in_err-reserve-clause-reads g c = λ told opens. inl (stands_holds (g.W.Outside.disk c.args.outside.now) _ (c.requires.stands told opens))

pub returns-in_err-prepared-clause-reads : goal.returns-in_err-prepared-clause-reads
returns-in_err-prepared-clause-reads g c = λ told opens. inl (stands_holds (g.W.Outside.disk c.args.outside.now) _ (c.requires.stands told opens))

pub returns-in-Ok-clause-reads : goal.returns-in-Ok-clause-reads
returns-in-Ok-clause-reads g c = λ told opens.
    read_either g.W.Outside.told g.W.Outside.disk g.W.Output.emitted g.W.Outside.moment g.W.Outside.left_since g.met.W.Outside.as_read g.met.W.Outside.only_now g.met.W.Outside.counts_now told c.args.outside.now c.seal.new.outside _ _
    (c.requires.stands told opens) (returns-in-Ok-clause-any_moment g c told opens)

pub returns-in-Err-clause-reads : goal.returns-in-Err-clause-reads
returns-in-Err-clause-reads g c = λ told opens.
    read_either g.W.Outside.told g.W.Outside.disk g.W.Output.emitted g.W.Outside.moment g.W.Outside.left_since g.met.W.Outside.as_read g.met.W.Outside.only_now g.met.W.Outside.counts_now told c.args.outside.now c.seal.new.outside _ _
    (c.requires.stands told opens) (returns-in-Err-clause-any_moment g c told opens)
