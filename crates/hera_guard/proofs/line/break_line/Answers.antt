use Rattle.std.proofs.Common.{◌≡◌, sym, subst, ◌++◌, codes}
use Rattle.std.specs.Prelude.{IfOk}
use Rattle.hera_meaning.specs.Rows.{IsRow}
use Rattle.hera_meaning.specs.Deltas.{schema_of}
use Rattle.hera_meaning.specs.Printed.{tuple_text}
use Rattle.hera_guard.specs.Guarded.{break_text}
use Rattle.hera_guard.proofs.Walking.{schema_found, name_found}
use Rattle.hera_guard.proofs.line.break_line.Goals as goal

pub line_of-requires : goal.line_of-requires
line_of-requires c =
    let rels = c.args.catalogue.now in
    let r = c.args.found.now.rel.0 in
    subst (λ s. IsRow s c.bytes.result.now) (schema_found rels r c.decl.result.now c.decl.ensures.decl) (subst (IsRow (schema_of rels r)) (sym c.bytes.ensures) c.requires.row)

pub returns : goal.returns
unfolding break_text
returns c =
    let rels = c.args.catalogue.now in
    let r = c.args.found.now.rel.0 in
    let d = c.decl.result.now in
    let host = c.args.host.now in
    subst (λ n. IfOk c.line_of.result (λ line. line ≡ codes "guard " ++ host ++ codes " refused " ++ n ++ tuple_text (schema_of rels r) c.args.found.now.row ++ codes "\n")) (sym (name_found rels r d c.decl.ensures.decl))
    (subst (λ s. IfOk c.line_of.result (λ line. line ≡ codes "guard " ++ host ++ codes " refused " ++ d.name ++ tuple_text s c.args.found.now.row ++ codes "\n")) (sym (schema_found rels r d c.decl.ensures.decl))
    (subst (λ b. IfOk c.line_of.result (λ line. line ≡ codes "guard " ++ host ++ codes " refused " ++ d.name ++ tuple_text d.schema b ++ codes "\n")) c.bytes.ensures c.line_of.ensures))
