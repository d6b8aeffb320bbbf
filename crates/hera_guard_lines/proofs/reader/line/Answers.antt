use Rattle.std.proofs.Common.{[], refl}
use Rattle.std.proofs.lemmas.Result.{err_from_is_err_and}
use Rattle.hera_syntax.specs.declared.token.Terminal.TheVariants.{Name, Punct}
use Rattle.hera_syntax.specs.declared.words.Mark.TheVariants.{Dot, Colon}
use Rattle.hera_guard_lines.specs.Lines.{name_token, mark_token}
use Rattle.hera_guard_lines.specs.Reading.{from_dot, from_attribute, from_colon, from_host, from_semicolon}
use Rattle.hera_guard_lines.proofs.Steps.{stops_behind, line_is}
use Rattle.hera_guard_lines.proofs.reader.line.Goals as goal

pub returns-in_err-relation-clause-stops : goal.returns-in_err-relation-clause-stops
returns-in_err-relation-clause-stops c =
    let p = err_from_is_err_and c.from_residual.result c.from_residual.ensures.1 in
    rw (p.1, p.2) (c.in_err-relation.ensures.stops from_dot)

pub returns-in_err-behind_dot-clause-stops : goal.returns-in_err-behind_dot-clause-stops
returns-in_err-behind_dot-clause-stops c =
    let p = err_from_is_err_and c.from_residual-in_err-behind_dot.result c.from_residual-in_err-behind_dot.ensures.1 in
    rw (p.1, p.2) (stops_behind Name from_dot c.args.tokens.now c.in_ok-relation.rest.now (name_token c.in_ok-relation.relation) c.in_err-behind_dot.field-0.0 c.in_ok-relation.ensures.reads refl (c.in_err-behind_dot.ensures.stops from_attribute))

pub returns-in_err-attribute-clause-stops : goal.returns-in_err-attribute-clause-stops
returns-in_err-attribute-clause-stops c =
    let p = err_from_is_err_and c.from_residual-in_err-attribute.result c.from_residual-in_err-attribute.ensures.1 in
    rw (p.1, p.2) (stops_behind Name from_dot c.args.tokens.now c.in_ok-relation.rest.now (name_token c.in_ok-relation.relation) c.in_err-attribute.field-0.0 c.in_ok-relation.ensures.reads refl (stops_behind (Punct Dot) from_attribute c.in_ok-relation.rest.now c.in_ok-behind_dot.behind_dot.now (mark_token Dot c.in_ok-behind_dot.ensures.reads.0) c.in_err-attribute.field-0.0 c.in_ok-behind_dot.ensures.reads.1 refl (c.in_err-attribute.ensures.stops from_colon)))

pub returns-in_err-behind_colon-clause-stops : goal.returns-in_err-behind_colon-clause-stops
returns-in_err-behind_colon-clause-stops c =
    let p = err_from_is_err_and c.from_residual-in_err-behind_colon.result c.from_residual-in_err-behind_colon.ensures.1 in
    rw (p.1, p.2) (stops_behind Name from_dot c.args.tokens.now c.in_ok-relation.rest.now (name_token c.in_ok-relation.relation) c.in_err-behind_colon.field-0.0 c.in_ok-relation.ensures.reads refl (stops_behind (Punct Dot) from_attribute c.in_ok-relation.rest.now c.in_ok-behind_dot.behind_dot.now (mark_token Dot c.in_ok-behind_dot.ensures.reads.0) c.in_err-behind_colon.field-0.0 c.in_ok-behind_dot.ensures.reads.1 refl (stops_behind Name from_colon c.in_ok-behind_dot.behind_dot.now c.in_ok-attribute.rest.now (name_token c.in_ok-attribute.attribute) c.in_err-behind_colon.field-0.0 c.in_ok-attribute.ensures.reads refl (c.in_err-behind_colon.ensures.stops from_host))))

pub returns-in_err-host-clause-stops : goal.returns-in_err-host-clause-stops
returns-in_err-host-clause-stops c =
    let p = err_from_is_err_and c.from_residual-in_err-host.result c.from_residual-in_err-host.ensures.1 in
    rw (p.1, p.2) (stops_behind Name from_dot c.args.tokens.now c.in_ok-relation.rest.now (name_token c.in_ok-relation.relation) c.in_err-host.field-0.0 c.in_ok-relation.ensures.reads refl (stops_behind (Punct Dot) from_attribute c.in_ok-relation.rest.now c.in_ok-behind_dot.behind_dot.now (mark_token Dot c.in_ok-behind_dot.ensures.reads.0) c.in_err-host.field-0.0 c.in_ok-behind_dot.ensures.reads.1 refl (stops_behind Name from_colon c.in_ok-behind_dot.behind_dot.now c.in_ok-attribute.rest.now (name_token c.in_ok-attribute.attribute) c.in_err-host.field-0.0 c.in_ok-attribute.ensures.reads refl (stops_behind (Punct Colon) from_host c.in_ok-attribute.rest.now c.in_ok-behind_colon.behind_colon.now (mark_token Colon c.in_ok-behind_colon.ensures.reads.0) c.in_err-host.field-0.0 c.in_ok-behind_colon.ensures.reads.1 refl (c.in_err-host.ensures.stops from_semicolon)))))

pub returns-in_err-behind_line-clause-stops : goal.returns-in_err-behind_line-clause-stops
returns-in_err-behind_line-clause-stops c =
    let p = err_from_is_err_and c.from_residual-in_err-behind_line.result c.from_residual-in_err-behind_line.ensures.1 in
    rw (p.1, p.2) (stops_behind Name from_dot c.args.tokens.now c.in_ok-relation.rest.now (name_token c.in_ok-relation.relation) c.in_err-behind_line.field-0.0 c.in_ok-relation.ensures.reads refl (stops_behind (Punct Dot) from_attribute c.in_ok-relation.rest.now c.in_ok-behind_dot.behind_dot.now (mark_token Dot c.in_ok-behind_dot.ensures.reads.0) c.in_err-behind_line.field-0.0 c.in_ok-behind_dot.ensures.reads.1 refl (stops_behind Name from_colon c.in_ok-behind_dot.behind_dot.now c.in_ok-attribute.rest.now (name_token c.in_ok-attribute.attribute) c.in_err-behind_line.field-0.0 c.in_ok-attribute.ensures.reads refl (stops_behind (Punct Colon) from_host c.in_ok-attribute.rest.now c.in_ok-behind_colon.behind_colon.now (mark_token Colon c.in_ok-behind_colon.ensures.reads.0) c.in_err-behind_line.field-0.0 c.in_ok-behind_colon.ensures.reads.1 refl (stops_behind Name from_semicolon c.in_ok-behind_colon.behind_colon.now c.in_ok-host.rest.now (name_token c.in_ok-host.host) c.in_err-behind_line.field-0.0 c.in_ok-host.ensures.reads refl (c.in_err-behind_line.ensures.stops []))))))

pub returns-clause-reads : goal.returns-clause-reads
returns-clause-reads c =
    line_is c.args.tokens.now c.in_ok-relation.rest.now c.in_ok-behind_dot.behind_dot.now c.in_ok-attribute.rest.now c.in_ok-behind_colon.behind_colon.now c.in_ok-host.rest.now c.in_ok-behind_line.behind_line.now _ _ _ _
    c.in_ok-relation.ensures.reads c.in_ok-behind_dot.ensures.reads.1 c.in_ok-attribute.ensures.reads c.in_ok-behind_colon.ensures.reads.1 c.in_ok-host.ensures.reads c.in_ok-behind_line.ensures.reads.1
