use Rattle.std.proofs.Common.{◌≡◌, ◌-◌, ◌<◌, sym, subst, rules, length, None}
use Rattle.std.proofs.lemmas.Bool.{eqb-true}
use Rattle.hera_syntax.specs.Lex.{LexFails}
use Rattle.hera_lexer.specs.Scan.{scan_of}
use Rattle.hera_lexer.proofs.Walk.{Walks, seam_found, step_of, step_piece, step_less, walks_no_piece, walks_done, walks_between, walks_kept, walks_refused}
use Rattle.hera_lexer.proofs.script.tokens_of.Goals as goal

pub returns-in_default-clause-bad_token : goal.returns-in_default-clause-bad_token
returns-in_default-clause-bad_token c at e =
    let none : scan_of c.loop-rest.rest.now ≡ None = search rules in
    let some : 0 < length c.loop-rest.rest.now = search rules in
    let place : length c.args.text.now - length c.loop-rest.rest.now ≡ at = cc in
    subst (LexFails c.args.text.now) place (walks_no_piece c.loop-rest.invariant c.utf8.text some none)

pub split_at-requires : goal.split_at-requires
split_at-requires c =
    let some : 0 < length c.loop-rest.rest.now = search rules in
    (seam_found c.loop-rest.rest.now _ _ c.loop-rest.invariant.utf8 some (sym c.in-Some.ensures)).boundary

pub read-requires : goal.read-requires
read-requires c =
    let some : 0 < length c.loop-rest.rest.now = search rules in
    step_piece _ _ _ _ (step_of c.loop-rest.rest.now _ _ _ _ (seam_found c.loop-rest.rest.now _ _ c.loop-rest.invariant.utf8 some (sym c.in-Some.ensures)) c.split_at.ensures.front c.split_at.ensures.back)

pub returns-in-Refused-clause-bad_token : goal.returns-in-Refused-clause-bad_token
returns-in-Refused-clause-bad_token c at e =
    let some : 0 < length c.loop-rest.rest.now = search rules in
    let step = step_of c.loop-rest.rest.now _ _ _ _ (seam_found c.loop-rest.rest.now _ _ c.loop-rest.invariant.utf8 some (sym c.in-Some.ensures)) c.split_at.ensures.front c.split_at.ensures.back in
    let reads = rw c.in-Refused.is at c.in_ok-read.ensures in
    let place : length c.args.text.now - length c.loop-rest.rest.now ≡ at = cc in
    subst (LexFails c.args.text.now) place (walks_refused c.loop-rest.invariant step c.utf8.text some reads.0 reads.1)

pub loop-rest-smaller-in-Between : goal.loop-rest-smaller-in-Between
loop-rest-smaller-in-Between c =
    let some : 0 < length c.loop-rest.rest.now = search rules in
    step_less _ _ _ _ (step_of c.loop-rest.rest.now _ _ _ _ (seam_found c.loop-rest.rest.now _ _ c.loop-rest.invariant.utf8 some (sym c.in-Some.ensures)) c.split_at.ensures.front c.split_at.ensures.back)

pub loop-rest-preserved-in-Between : goal.loop-rest-preserved-in-Between
loop-rest-preserved-in-Between c =
    let some : 0 < length c.loop-rest.rest.now = search rules in
    let step = step_of c.loop-rest.rest.now _ _ _ _ (seam_found c.loop-rest.rest.now _ _ c.loop-rest.invariant.utf8 some (sym c.in-Some.ensures)) c.split_at.ensures.front c.split_at.ensures.back in
    walks_between c.loop-rest.invariant step (rw c.in-Between.is at c.in_ok-read.ensures)

pub loop-rest-smaller : goal.loop-rest-smaller
loop-rest-smaller c =
    let some : 0 < length c.loop-rest.rest.now = search rules in
    step_less _ _ _ _ (step_of c.loop-rest.rest.now _ _ _ _ (seam_found c.loop-rest.rest.now _ _ c.loop-rest.invariant.utf8 some (sym c.in-Some.ensures)) c.split_at.ensures.front c.split_at.ensures.back)

pub loop-rest-preserved : goal.loop-rest-preserved
loop-rest-preserved c =
    let some : 0 < length c.loop-rest.rest.now = search rules in
    let step = step_of c.loop-rest.rest.now _ _ _ _ (seam_found c.loop-rest.rest.now _ _ c.loop-rest.invariant.utf8 some (sym c.in-Some.ensures)) c.split_at.ensures.front c.split_at.ensures.back in
    let reads = rw c.in-Kept.is at c.in_ok-read.ensures in
    subst (λ tokens. Walks c.args.text.now tokens c.split_at.result.1.now) (sym c.in_ok-push-in-Kept.ensures.items) (walks_kept c.loop-rest.invariant step c.in-Kept.kind reads)

pub returns-clause-ok : goal.returns-clause-ok
returns-clause-ok c = walks_done c.loop-rest.invariant c.utf8.text (eqb-true _ _ (sym c.loop-rest-test.ensures))
