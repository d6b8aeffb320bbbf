use Rattle.std.proofs.Common.{ℕ, List, Option, Some, sym, ap, ◌∙◌, subst, arith}
use Rattle.std.specs.Prelude.{IfSome}
use Rattle.std.specs.Option.{option_map}
use Rattle.hera_guard.specs.declared.table.Break.{Break}
use Rattle.hera_guard.specs.Guards.{IsBreakOf}
use Rattle.hera_guard.specs.Guarded.{break_text, guard_name}
use Rattle.hera_guarded.proofs.Named.{mean_name, mean_length, there_is}
use Rattle.hera_guarded.proofs.rules.Rules.line.Goals as goal

pub host_name-requires : goal.host_name-requires
host_name-requires g c =
    let known = subst (λ (o : Option Break). IfSome o (IsBreakOf c.args.catalogue.now c.args.self.now.table)) c.in-Some.is c.requires.known in
    let long = mean_length c.args.catalogue.now c.args.self.now.hosts.now.names c.args.self.now.lines.now c.args.self.now.table c.requires.rules.mean in
    let within = known.guard in
    record { there = omega (arith, long, within) }

pub returns-in_ok-line-in-Some : goal.returns-in_ok-line-in-Some
returns-in_ok-line-in-Some g c =
    let rels = c.args.catalogue.now in
    let hosts = c.args.self.now.hosts.now.names in
    let lines = c.args.self.now.lines.now in
    let guards = c.args.self.now.table in
    let found = c.in-Some.found in
    let known = subst (λ (o : Option Break). IfSome o (IsBreakOf rels guards)) c.in-Some.is c.requires.known in
    let long = mean_length rels hosts lines guards c.requires.rules.mean in
    let within = known.guard in
    let (l, at) = there_is lines found.guard (omega (arith, long, within)) in
    ap Some (c.in_ok-line-in-Some.ensures ∙ ap (λ (n : List ℕ). break_text rels n found) (c.host_name.ensures l at ∙ mean_name rels hosts lines guards found.guard l c.requires.rules.mean at))
    ∙ ap (option_map (λ (b : Break). break_text rels (guard_name hosts guards b.guard) b)) (sym c.in-Some.is)
