use Rattle.std.proofs.Common.{◌≡◌, ◌+◌, ◌-◌, length, sym, ◌∙◌, arith}
use Rattle.hera_guard_lines.proofs.Stuck.{stuck_is_fault}
use Rattle.hera_guard_lines.proofs.lines.read_lines.Goals as goal

pub offset_of-at-requires-clause-there : goal.offset_of-at-requires-clause-there
offset_of-at-requires-clause-there c =
    let stops = rw (c.in-Err-Syntax.field-0-is, c.items.ensures.items) at c.in-Err-Syntax.ensures.stops in (stuck_is_fault c.args.tokens.now.0 c.in-Err-Syntax.left stops).0

pub returns-in-Err-Syntax-clause-syntax : goal.returns-in-Err-Syntax-clause-syntax
returns-in-Err-Syntax-clause-syntax c at e =
    let tokens = c.args.tokens.now in
    let left = c.in-Err-Syntax.left in
    let stops = rw (c.in-Err-Syntax.field-0-is, c.items.ensures.items) at c.in-Err-Syntax.ensures.stops in
    let found = stuck_is_fault tokens.0 left stops in
    let within = found.0 in
    let same : c.offset_of-at.result ≡ at = cc in
    let whole : (length tokens.0 - left) + left ≡ length tokens.0 = omega (arith, within) in (length tokens.0 - left, found.1 (length tokens.0 - left) whole, sym same ∙ c.offset_of-at.ensures)
