use Rattle.std.proofs.Common.{◌≡◌, ◌≤◌, ◌∙◌, false, length, sym, ap, subst, arith}
use Rattle.hera_meaning.specs.Commits.{after_all}
use Rattle.hera_volume.specs.Time.{LeavesOnly}
use Rattle.hera_volume.specs.declared.file_id.FileId.{FileId}
use Rattle.hera_volume.specs.declared.file_id.FileId.TheVariants.{Select}
use Rattle.hera_store.specs.Databases.{Holds}
use Rattle.rel_format.specs.Versions.{IsHalfOf}
use Rattle.rel_format.specs.Journal.{half_limit}
use Rattle.hera_store.specs.Standing.{Standing, StandsFor, database_of, other_half}
use Rattle.hera_store.specs.Faults.{half_with}
use Rattle.hera_store.specs.Moments.{IsStill}
use Rattle.hera_volume.proofs.Moments.{leaves-weaker}
use Rattle.hera_store.proofs.Selections.{either_same}
use Rattle.hera_store.proofs.Commits.{stands_holds}
use Rattle.hera_store.proofs.Readings.{read_still}
use Rattle.hera_store.proofs.Renewals.{other_twice, renewed_is, switched_holds}
use Rattle.hera_store.proofs.store.Store.checkpoint.Goals as goal

pub returns-in-Ok-clause-any_moment : goal.returns-in-Ok-clause-any_moment
returns-in-Ok-clause-any_moment g c = λ told opens.
    let inside = c.self.inside in
    let s : Standing = record { base = inside.base; commits = inside.commits.items; half = inside.half; end = inside.end; closed = inside.closed } in
    let state = after_all s.base.state s.commits in
    let disks = g.W.Outside.disk c.args.outside.now in
    let stands : StandsFor disks s = subst (StandsFor disks) (sym c.self.view_is) (c.requires.stands told opens) in
    let half : c.in_ok-bytes.bytes.items ≡ half_with (database_of s) = rw c.deref.ensures.value at c.in_ok-bytes.ensures.half in
    let fits : length (half_with (database_of s)) ≤ c.args.limit = rw c.deref.ensures.value at c.in_ok-bytes.ensures.fits in
    let short : length (half_with (database_of s)) ≤ half_limit = omega (arith, fits, c.requires.limit) in
    let former = subst (λ (f : FileId). IsHalfOf (disks f).bytes s.base.catalogue state) (sym (ap other_half c.other_half.ensures ∙ other_twice s.half)) (s.base.version, stands.half.half) in
    let new = renewed_is s c.deref-2.result.now c.self.invariant stands.half.half.catalogue short (c.deref-2.ensures.value ∙ half) in
    subst (λ (x : Standing). LeavesOnly g.W.Outside.moment g.W.Outside.left_since c.args.outside.now c.switch_to.new.outside (IsStill (database_of x) (g.W.Output.emitted c.args.outside.now))) c.self.view_is
    (leaves-weaker _ _ (c.switch_to.ensures.any_moment told (database_of s) (database_of s) former new) (either_same (database_of s) (g.W.Output.emitted c.args.outside.now)))

pub returns-clause-any_moment : goal.returns-clause-any_moment
returns-clause-any_moment g c = λ told opens.
    let inside = c.self.inside in
    let s : Standing = record { base = inside.base; commits = inside.commits.items; half = inside.half; end = inside.end; closed = inside.closed } in
    let state = after_all s.base.state s.commits in
    let disks = g.W.Outside.disk c.args.outside.now in
    let stands : StandsFor disks s = subst (StandsFor disks) (sym c.self.view_is) (c.requires.stands told opens) in
    let half : c.in_ok-bytes.bytes.items ≡ half_with (database_of s) = rw c.deref.ensures.value at c.in_ok-bytes.ensures.half in
    let fits : length (half_with (database_of s)) ≤ c.args.limit = rw c.deref.ensures.value at c.in_ok-bytes.ensures.fits in
    let short : length (half_with (database_of s)) ≤ half_limit = omega (arith, fits, c.requires.limit) in
    let former = subst (λ (f : FileId). IsHalfOf (disks f).bytes s.base.catalogue state) (sym (ap other_half c.other_half.ensures ∙ other_twice s.half)) (s.base.version, stands.half.half) in
    let new = renewed_is s c.deref-2.result.now c.self.invariant stands.half.half.catalogue short (c.deref-2.ensures.value ∙ half) in
    subst (λ (x : Standing). LeavesOnly g.W.Outside.moment g.W.Outside.left_since c.args.outside.now c.switch_to.new.outside (IsStill (database_of x) (g.W.Output.emitted c.args.outside.now))) c.self.view_is
    (leaves-weaker _ _ (c.switch_to.ensures.any_moment told (database_of s) (database_of s) former new) (either_same (database_of s) (g.W.Output.emitted c.args.outside.now)))

pub returns-in-Ok-clause-holds : goal.returns-in-Ok-clause-holds
returns-in-Ok-clause-holds g c = λ told.
    let inside = c.self.inside in
    let s : Standing = record { base = inside.base; commits = inside.commits.items; half = inside.half; end = inside.end; closed = inside.closed } in
    let disks = g.W.Outside.disk c.args.outside.now in
    let now = g.W.Outside.disk c.switch_to.new.outside in
    let stands : StandsFor disks s = subst (StandsFor disks) (sym c.self.view_is) (c.requires.stands told (subst (λ (x : Standing). x.closed ≡ false) c.self.view_is c.if-self.false)) in
    let half : c.in_ok-bytes.bytes.items ≡ half_with (database_of s) = rw c.deref.ensures.value at c.in_ok-bytes.ensures.half in
    let fits : length (half_with (database_of s)) ≤ c.args.limit = rw c.deref.ensures.value at c.in_ok-bytes.ensures.fits in
    let short : length (half_with (database_of s)) ≤ half_limit = omega (arith, fits, c.requires.limit) in
    let written = rw c.other_half.ensures at (c.in-Ok.ensures.written told) in
    let selects = rw c.other_half.ensures at (c.in-Ok.ensures.selects told) in
    let new = renewed_is s (now (other_half s.half)).bytes c.self.invariant stands.half.half.catalogue short (written ∙ c.deref-2.ensures.value ∙ half) in
    subst (λ (x : Standing). Holds (λ f. (now f).bytes) (database_of x)) c.self.view_is (switched_holds s (database_of s) (disks Select).bytes now stands.named selects new)

pub returns-in_err-bytes-clause-reads : goal.returns-in_err-bytes-clause-reads
returns-in_err-bytes-clause-reads g c = λ told opens. stands_holds (g.W.Outside.disk c.args.outside.now) _ (c.requires.stands told opens)

pub returns-in-Ok-clause-reads : goal.returns-in-Ok-clause-reads
returns-in-Ok-clause-reads g c = λ told opens.
    read_still g.W.Outside.told g.W.Outside.disk g.W.Output.emitted g.W.Outside.moment g.W.Outside.left_since g.met.W.Outside.as_read g.met.W.Outside.only_now g.met.W.Outside.counts_now told c.args.outside.now c.switch_to.new.outside _
    (c.requires.stands told opens) (returns-in-Ok-clause-any_moment g c told opens)

pub returns-clause-reads : goal.returns-clause-reads
returns-clause-reads g c = λ told opens.
    read_still g.W.Outside.told g.W.Outside.disk g.W.Output.emitted g.W.Outside.moment g.W.Outside.left_since g.met.W.Outside.as_read g.met.W.Outside.only_now g.met.W.Outside.counts_now told c.args.outside.now c.switch_to.new.outside _
    (c.requires.stands told opens) (returns-clause-any_moment g c told opens)
