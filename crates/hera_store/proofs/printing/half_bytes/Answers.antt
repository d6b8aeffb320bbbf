use Rattle.std.proofs.Common.{◌≡◌, ◌≤◌, ◌∙◌, inr, List, ℕ, length, ap, subst, arith}
use Rattle.std.proofs.lemmas.List.{take_all}
use Rattle.std.proofs.lemmas.Result.{err_from_is_err_and}
use Rattle.hera_meaning.specs.Commits.{after_all}
use Rattle.hera_meaning.specs.declared.schemas.RelDecl.{RelDecl}
use Rattle.hera_meaning.specs.Catalogues.{IsCatalogue}
use Rattle.hera_meaning.specs.Deltas.{IsState}
use Rattle.rel_format.specs.declared.version.TheConstants.{PAGE_TWO}
use Rattle.rel_format.specs.Pages.{format_two, paged}
use Rattle.rel_pages.proofs.States.{state_length}
use Rattle.half_writer.specs.Written.{Written, IsFirstFull, written_of, need_of}
use Rattle.hera_meaning.proofs.CommitLaws.{state_after_all}
use Rattle.hera_store.proofs.Printings.{rows_are, seen, one_more, full_adding, finished_fits}
use Rattle.hera_store.proofs.printing.half_bytes.Goals as goal

pub add-requires-clause-rows : goal.add-requires-clause-rows
add-requires-clause-rows c =
    let base = c.args.base.now in
    let state = after_all base.state c.args.commits.now in
    let catalogue : IsCatalogue base.catalogue = rw c.catalogue-2.ensures.catalogue at c.len-number-end.ensures.valid in
    let valid : IsState base.catalogue state = state_after_all base.catalogue base.state c.args.commits.now c.requires.over.state c.requires.over.proper in
    rows_are base.catalogue state c.loop-number.number c.indexed.result catalogue.decls valid (seen base.state c.args.commits.now c.loop-number.number c.indexed.result (rw c.new-layers.ensures at c.indexed.ensures))

pub returns-in_err-add-clause-refusal : goal.returns-in_err-add-clause-refusal
returns-in_err-add-clause-refusal c =
    let base = c.args.base.now in
    let state = after_all base.state c.args.commits.now in
    let w = c.loop-number.writer in
    let catalogue : IsCatalogue base.catalogue = rw c.catalogue-2.ensures.catalogue at c.len-number-end.ensures.valid in
    let valid : IsState base.catalogue state = state_after_all base.catalogue base.state c.args.commits.now c.requires.over.state c.requires.over.proper in
    let here = seen base.state c.args.commits.now c.loop-number.number c.indexed.result (rw c.new-layers.ensures at c.indexed.ensures) in
    let limit : w.limit ≡ c.args.limit = ap (λ (x : Written). x.limit) c.loop-number.invariant.written in
    let full = subst (λ (n : ℕ). IsFirstFull PAGE_TWO (need_of w) (length (paged PAGE_TWO c.indexed.result)) n c.in_err-add.field-0.0) limit c.in_err-add.ensures.full in
    let q = err_from_is_err_and c.from_residual-in_err-add.result c.from_residual-in_err-add.ensures.1 in
    rw (q.1, q.2) (full_adding base.catalogue state c.args.limit catalogue.decls valid c.loop-number.number c.indexed.result w c.in_err-add.field-0.0 c.loop-number.invariant.written here c.loop-number.invariant.room full)

pub loop-number-preserved : goal.loop-number-preserved
loop-number-preserved c =
    let base = c.args.base.now in
    let state = after_all base.state c.args.commits.now in
    let here = seen base.state c.args.commits.now c.loop-number.number c.indexed.result (rw c.new-layers.ensures at c.indexed.ensures) in
    let written = one_more base.catalogue c.args.limit c.loop-number.number state c.indexed.result c.loop-number.writer c.add.new.self c.loop-number.invariant.written here c.in_ok-add.ensures.add in
    let limit : c.add.new.self.limit ≡ c.args.limit = ap (λ (x : Written). x.limit) written in
    record { written = written; room = inr (subst (λ (n : ℕ). need_of c.add.new.self ≤ n) limit c.in_ok-add.ensures.room) }

pub returns-clause-half : goal.returns-clause-half
returns-clause-half c =
    let base = c.args.base.now in
    let state = after_all base.state c.args.commits.now in
    let valid : IsState base.catalogue state = state_after_all base.catalogue base.state c.args.commits.now c.requires.over.state c.requires.over.proper in
    let count = ap (λ (l : List RelDecl). length l) c.catalogue-2.ensures.catalogue in
    let all : length state ≤ c.loop-number.number = omega (arith, state_length base.catalogue state valid, count, c.len-number-end.ensures.count, c.loop-number-test.false) in
    c.in_ok-finish.ensures.half base.catalogue c.args.limit state (c.loop-number.invariant.written ∙ ap (written_of format_two base.catalogue c.args.limit) (take_all c.loop-number.number state all))

pub returns-clause-fits : goal.returns-clause-fits
returns-clause-fits c =
    let base = c.args.base.now in
    let state = after_all base.state c.args.commits.now in
    let w = c.loop-number.writer in
    let catalogue : IsCatalogue base.catalogue = rw c.catalogue-2.ensures.catalogue at c.len-number-end.ensures.valid in
    let valid : IsState base.catalogue state = state_after_all base.catalogue base.state c.args.commits.now c.requires.over.state c.requires.over.proper in
    let count = ap (λ (l : List RelDecl). length l) c.catalogue-2.ensures.catalogue in
    let all : length state ≤ c.loop-number.number = omega (arith, state_length base.catalogue state valid, count, c.len-number-end.ensures.count, c.loop-number-test.false) in
    let limit : w.limit ≡ c.args.limit = ap (λ (x : Written). x.limit) c.loop-number.invariant.written in
    finished_fits base.catalogue state c.args.limit catalogue.decls valid c.loop-number.number w all c.loop-number.invariant.written (subst (λ (n : ℕ). need_of w ≤ n) limit c.in_ok-finish.ensures.room)
