use Rattle.std.proofs.Common.{◌≡◌, ◌≤◌, ◌∙◌, inr, ℕ, length, ap, subst, arith}
use Rattle.std.proofs.lemmas.List.{take_all}
use Rattle.std.proofs.lemmas.Result.{err_from_is_err_and}
use Rattle.hera_meaning.specs.Commits.{after_all}
use Rattle.hera_meaning.specs.Catalogues.{IsCatalogue}
use Rattle.hera_meaning.specs.Deltas.{IsState}
use Rattle.hera_meaning.specs.Wider.{widen_of}
use Rattle.hera_meaning.proofs.CommitLaws.{state_after_all}
use Rattle.hera_meaning.proofs.WiderLaws.{wide_state}
use Rattle.rel_format.specs.declared.version.TheConstants.{PAGE_TWO}
use Rattle.rel_format.specs.Pages.{format_two, paged}
use Rattle.rel_pages.proofs.States.{state_length}
use Rattle.half_writer.specs.Written.{Written, IsFirstFull, written_of, need_of}
use Rattle.hera_store.specs.Widened.{rows_under}
use Rattle.hera_store.proofs.Printings.{rows_are, one_more, full_adding, finished_fits}
use Rattle.hera_store.proofs.Widenings.{begins_as, widened_at, print_widen}
use Rattle.hera_store.proofs.widening.wide_half.Goals as goal

pub add_relation-requires-clause-kept : goal.add_relation-requires-clause-kept
add_relation-requires-clause-kept c = begins_as c.args.base.now.catalogue c.args.catalogue.now c.loop-number.number c.decl.result.now c.len-number-end.ensures.valid c.requires.wider c.decl.ensures.decl

pub add_relation-requires-clause-wide : goal.add_relation-requires-clause-wide
add_relation-requires-clause-wide c =
    let base = c.args.base.now in
    let rels = c.args.catalogue.now in
    let state = after_all base.state c.args.commits.now in
    let valid : IsState base.catalogue state = state_after_all base.catalogue base.state c.args.commits.now c.requires.over.state c.requires.over.proper in
    let catalogue : IsCatalogue rels = c.len-number-end.ensures.valid in
    let wide : IsState rels (widen_of base.catalogue state rels) = wide_state base.catalogue rels state catalogue.distinct c.requires.wider valid in
    rows_are rels (widen_of base.catalogue state rels) c.loop-number.number (rows_under base c.args.commits.now c.decl.result.now) catalogue.decls wide
    (widened_at base.catalogue state rels c.loop-number.number c.decl.result.now c.decl.ensures.decl)

pub returns-in_err-add_relation-clause-refusal : goal.returns-in_err-add_relation-clause-refusal
returns-in_err-add_relation-clause-refusal c =
    let base = c.args.base.now in
    let rels = c.args.catalogue.now in
    let state = after_all base.state c.args.commits.now in
    let valid : IsState base.catalogue state = state_after_all base.catalogue base.state c.args.commits.now c.requires.over.state c.requires.over.proper in
    let catalogue : IsCatalogue rels = c.len-number-end.ensures.valid in
    let wide : IsState rels (widen_of base.catalogue state rels) = wide_state base.catalogue rels state catalogue.distinct c.requires.wider valid in
    let w = c.loop-number.writer in
    let rows = rows_under base c.args.commits.now c.decl.result.now in
    let held = widened_at base.catalogue state rels c.loop-number.number c.decl.result.now c.decl.ensures.decl in
    let limit : w.limit ≡ c.args.limit = ap (λ (x : Written). x.limit) c.loop-number.invariant.written in
    let fault = c.in_err-add_relation.field-0.0 in
    let full = subst (λ (n : ℕ). IsFirstFull PAGE_TWO (need_of w) (length (paged PAGE_TWO rows)) n fault) limit c.in_err-add_relation.ensures.full in
    let q = err_from_is_err_and c.from_residual-in_err-add_relation.result c.from_residual-in_err-add_relation.ensures.1 in
    rw (q.1, q.2) (print_widen (record { catalogue = rels; state = widen_of base.catalogue state rels }) c.args.limit fault
    (full_adding rels (widen_of base.catalogue state rels) c.args.limit catalogue.decls wide c.loop-number.number rows w fault c.loop-number.invariant.written held c.loop-number.invariant.room full))

pub loop-number-preserved : goal.loop-number-preserved
loop-number-preserved c =
    let base = c.args.base.now in
    let rels = c.args.catalogue.now in
    let state = after_all base.state c.args.commits.now in
    let rows = rows_under base c.args.commits.now c.decl.result.now in
    let held = widened_at base.catalogue state rels c.loop-number.number c.decl.result.now c.decl.ensures.decl in
    let written = one_more rels c.args.limit c.loop-number.number (widen_of base.catalogue state rels) rows c.loop-number.writer c.add_relation.new.writer c.loop-number.invariant.written held c.in_ok-add_relation.ensures.add in
    let limit : c.add_relation.new.writer.limit ≡ c.args.limit = ap (λ (x : Written). x.limit) written in
    record { written = written; room = inr (subst (λ (n : ℕ). need_of c.add_relation.new.writer ≤ n) limit c.in_ok-add_relation.ensures.room) }

pub returns-clause-half : goal.returns-clause-half
returns-clause-half c =
    let base = c.args.base.now in
    let rels = c.args.catalogue.now in
    let state = after_all base.state c.args.commits.now in
    let valid : IsState base.catalogue state = state_after_all base.catalogue base.state c.args.commits.now c.requires.over.state c.requires.over.proper in
    let catalogue : IsCatalogue rels = c.len-number-end.ensures.valid in
    let wide : IsState rels (widen_of base.catalogue state rels) = wide_state base.catalogue rels state catalogue.distinct c.requires.wider valid in
    let all : length (widen_of base.catalogue state rels) ≤ c.loop-number.number = omega (arith, state_length rels (widen_of base.catalogue state rels) wide, c.len-number-end.ensures.count, catalogue.few, c.loop-number-test.false) in
    c.in_ok-finish.ensures.half rels c.args.limit (widen_of base.catalogue state rels) (c.loop-number.invariant.written ∙ ap (written_of format_two rels c.args.limit) (take_all c.loop-number.number (widen_of base.catalogue state rels) all))

pub returns-clause-fits : goal.returns-clause-fits
returns-clause-fits c =
    let base = c.args.base.now in
    let rels = c.args.catalogue.now in
    let state = after_all base.state c.args.commits.now in
    let valid : IsState base.catalogue state = state_after_all base.catalogue base.state c.args.commits.now c.requires.over.state c.requires.over.proper in
    let catalogue : IsCatalogue rels = c.len-number-end.ensures.valid in
    let wide : IsState rels (widen_of base.catalogue state rels) = wide_state base.catalogue rels state catalogue.distinct c.requires.wider valid in
    let w = c.loop-number.writer in
    let all : length (widen_of base.catalogue state rels) ≤ c.loop-number.number = omega (arith, state_length rels (widen_of base.catalogue state rels) wide, c.len-number-end.ensures.count, catalogue.few, c.loop-number-test.false) in
    let limit : w.limit ≡ c.args.limit = ap (λ (x : Written). x.limit) c.loop-number.invariant.written in
    finished_fits rels (widen_of base.catalogue state rels) c.args.limit catalogue.decls wide c.loop-number.number w all c.loop-number.invariant.written (subst (λ (n : ℕ). need_of w ≤ n) limit c.in_ok-finish.ensures.room)
