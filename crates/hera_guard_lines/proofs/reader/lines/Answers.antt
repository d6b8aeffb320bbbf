use Rattle.std.proofs.Common.{◌<◌, ◌++◌, refl, sym, subst, ◌∙◌, length, rules}
use Rattle.std.proofs.lemmas.Bool.{eqb-true}
use Rattle.std.proofs.lemmas.Result.{err_from_is_err_and}
use Rattle.hera_guard_lines.specs.Lines.{AreLines}
use Rattle.hera_guard_lines.proofs.Steps.{line_stops, line_read, lines_more, line_shorter, lines_end}
use Rattle.hera_guard_lines.proofs.reader.lines.Goals as goal

pub loop-rest-init : goal.loop-rest-init
loop-rest-init c = record { read = λ more are. subst (λ ls. AreLines c.args.tokens.now (ls ++ more)) (sym c.new-lines.ensures.items) are; same = refl }

pub returns-in_err-read-clause-stops : goal.returns-in_err-read-clause-stops
returns-in_err-read-clause-stops c =
    let some : 0 < length c.loop-rest.rest.now = search rules in
    let p = err_from_is_err_and c.from_residual.result c.from_residual.ensures.1 in
    rw (p.1, p.2) (line_stops c.args.tokens.now c.loop-rest.rest.now c.in_err-read.field-0.0 some c.loop-rest.invariant.same c.in_err-read.ensures.stops)

pub loop-rest-smaller : goal.loop-rest-smaller
loop-rest-smaller c = line_shorter c.loop-rest.rest.now c.in_ok-read.behind.now c.in_ok-read.read c.in_ok-read.ensures.reads

pub loop-rest-preserved : goal.loop-rest-preserved
loop-rest-preserved c =
    let is = c.in_ok-read.ensures.reads in
    record {
      read = lines_more c.args.tokens.now c.loop-rest.rest.now c.in_ok-read.behind.now c.loop-rest.lines.items c.push.new.self.items c.in_ok-read.read is c.in_ok-push.ensures.items c.loop-rest.invariant.read;
      same = sym (line_read c.loop-rest.rest.now c.in_ok-read.behind.now c.in_ok-read.read is) ∙ c.loop-rest.invariant.same;
    }

pub returns-clause-lines : goal.returns-clause-lines
returns-clause-lines c = lines_end c.args.tokens.now c.loop-rest.rest.now c.loop-rest.lines.items (eqb-true _ _ (sym c.loop-rest-test.ensures)) c.loop-rest.invariant.read
