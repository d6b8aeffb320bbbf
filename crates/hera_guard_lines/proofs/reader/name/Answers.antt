use Rattle.std.proofs.Common.{sym}
use Rattle.hera_syntax.specs.declared.token.Terminal.TheVariants.{Name}
use Rattle.hera_guard_lines.proofs.Steps.{none_left, other_stands, no_name, name_read}
use Rattle.hera_guard_lines.proofs.reader.name.Goals as goal

pub returns-in_default-clause-stops : goal.returns-in_default-clause-stops
returns-in_default-clause-stops c = λ wanted. none_left Name wanted c.args.tokens.now c.in_default.ensures.cases

pub returns-in_default-ident-clause-stops : goal.returns-in_default-ident-clause-stops
returns-in_default-ident-clause-stops c = λ wanted.
    let t = c.in-Some.cut.0.now in
    other_stands Name wanted c.args.tokens.now c.in-Some.cut.1.now t c.in-Some.ensures.cases.0 (no_name t.kind (sym c.in_default-ident.ensures))

pub returns-clause-reads : goal.returns-clause-reads
returns-clause-reads c = name_read c.args.tokens.now c.in-Some.cut.1.now c.in-Some.cut.0.now c.in-Some-ident.found.now c.in_ok-name.name c.in-Some.ensures.cases.0 (sym c.in-Some-ident.ensures) c.in_ok-name.ensures
