use Rattle.std.proofs.Common.{◌≡◌, ◌∙◌, List, ℕ, sym, ap, subst}
use Rattle.hera_volume.specs.Disk.{Disk, IsSettled}
use Rattle.hera_volume.specs.declared.file_id.FileId.{FileId}
use Rattle.hera_volume.specs.declared.file_id.FileId.TheVariants.{Select}
use Rattle.rel_format.specs.Versions.{IsHalfOf}
use Rattle.hera_store.specs.Standing.{other_half}
use Rattle.hera_store.proofs.Untouched.{each}
use Rattle.hera_store.proofs.Fillings.{other_written, other_selected, other_apart, select_apart}
use Rattle.hera_store.proofs.switching.switch_to.Goals as goal

pub returns-in_err-rewrite_and_sync-clause-any_moment : goal.returns-in_err-rewrite_and_sync-clause-any_moment
returns-in_err-rewrite_and_sync-clause-any_moment g c = λ told before after former half.
    other_written g.W.Outside.disk g.W.Output.emitted g.W.Outside.moment g.W.Outside.left_since before after c.args.outside.now c.rewrite_and_sync.new.outside c.args.half (c.requires.settled told) (c.requires.named told) former (c.rewrite_and_sync.ensures.any_moment told)

pub returns-in_err-select_half-clause-any_moment : goal.returns-in_err-select_half-clause-any_moment
returns-in_err-select_half-clause-any_moment g c = λ told before after former half.
    let disk = g.W.Outside.disk in
    let which = c.args.half in
    let a = c.args.outside.now in
    let b = c.rewrite_and_sync.new.outside in
    let others = c.rewrite_and_sync.ensures.others told in
    let named = c.requires.named told in
    let written = c.in_ok-rewrite_and_sync.ensures.done told in
    let select : disk b Select ≡ disk a Select = others Select (select_apart which (disk a Select).bytes named) in
    let other : disk b (other_half which) ≡ disk a (other_half which) = others (other_half which) (other_apart which (disk a Select).bytes named) in
    let settled : (f : FileId) → IsSettled (disk b f) = each (λ f. IsSettled (disk b f)) which written.0 (λ f ne. subst IsSettled (sym (others f ne)) (c.requires.settled told f)) in
    let first = other_written disk g.W.Output.emitted g.W.Outside.moment g.W.Outside.left_since before after a b which (c.requires.settled told) named former (c.rewrite_and_sync.ensures.any_moment told) in
    other_selected disk g.W.Output.emitted g.W.Outside.moment g.W.Outside.left_since before after a b c.select_half.new.outside which _ first c.rewrite_and_sync.ensures.emitted settled
    (named.0, ap (λ (d : Disk). d.bytes) select ∙ named.1, named.2)
    (subst (λ (d : Disk). IsHalfOf d.bytes before.catalogue before.state) (sym other) former)
    (subst (λ (l : List ℕ). IsHalfOf l after.catalogue after.state) (sym written.1) half)
    (c.select_half.ensures.any_moment told)

pub returns-clause-any_moment : goal.returns-clause-any_moment
returns-clause-any_moment g c = λ told before after former half.
    let disk = g.W.Outside.disk in
    let which = c.args.half in
    let a = c.args.outside.now in
    let b = c.rewrite_and_sync.new.outside in
    let others = c.rewrite_and_sync.ensures.others told in
    let named = c.requires.named told in
    let written = c.in_ok-rewrite_and_sync.ensures.done told in
    let select : disk b Select ≡ disk a Select = others Select (select_apart which (disk a Select).bytes named) in
    let other : disk b (other_half which) ≡ disk a (other_half which) = others (other_half which) (other_apart which (disk a Select).bytes named) in
    let settled : (f : FileId) → IsSettled (disk b f) = each (λ f. IsSettled (disk b f)) which written.0 (λ f ne. subst IsSettled (sym (others f ne)) (c.requires.settled told f)) in
    let first = other_written disk g.W.Output.emitted g.W.Outside.moment g.W.Outside.left_since before after a b which (c.requires.settled told) named former (c.rewrite_and_sync.ensures.any_moment told) in
    other_selected disk g.W.Output.emitted g.W.Outside.moment g.W.Outside.left_since before after a b c.select_half.new.outside which _ first c.rewrite_and_sync.ensures.emitted settled
    (named.0, ap (λ (d : Disk). d.bytes) select ∙ named.1, named.2)
    (subst (λ (d : Disk). IsHalfOf d.bytes before.catalogue before.state) (sym other) former)
    (subst (λ (l : List ℕ). IsHalfOf l after.catalogue after.state) (sym written.1) half)
    (c.select_half.ensures.any_moment told)
