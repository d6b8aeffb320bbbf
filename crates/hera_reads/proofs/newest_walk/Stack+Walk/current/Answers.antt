use Rattle.std.proofs.Common.{◌∙◌, ◌-◌, sym, ap, arith}
use Rattle.hera_reads.specs.Walking.{current_in}
use Rattle.hera_reads.proofs.Tops.{newest_at_end, none_current}
use Rattle.hera_reads.proofs.newest_walk.Stack+Walk.current.Goals as goal

pub returns-then-count-eq0 : goal.returns-then-count-eq0
returns-then-count-eq0 c = none_current c.self.inside.items.items (omega (arith, c.self.inside.items.ok.0, c.len-count.ensures, c.if-count-eq0.true)) ∙ ap current_in c.self.view_is

pub returns : goal.returns
returns c =
    c.current.ensures
    ∙ ap current_in (sym (newest_at_end (λ x. x) c.self.inside.items.items (c.len-count.result - 1) c.index.result.now (omega (arith, c.self.inside.items.ok.0, c.len-count.ensures, c.if-count-eq0.false)) c.index.ensures))
    ∙ ap current_in c.self.view_is
