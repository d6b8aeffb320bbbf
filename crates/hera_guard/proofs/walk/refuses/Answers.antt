use Rattle.std.proofs.Common.{◌∙◌, ap}
use Rattle.hera_meaning.specs.declared.hosts.HostAnswer.TheVariants.{Int as int_answer, Bool as bool_answer}
use Rattle.hera_meaning.specs.Scalars.{is_kind}
use Rattle.hera_meaning.specs.Rows.{field_at}
use Rattle.hera_meaning.specs.Forms.{kind_at}
use Rattle.hera_meaning.specs.Hosts.{host_at}
use Rattle.hera_host.specs.Tables.{specs_of}
use Rattle.hera_guard.proofs.Fields.{field_kind, answered}
use Rattle.hera_guard.proofs.walk.refuses.Goals as goal

pub call-requires-clause-kind : goal.call-requires-clause-kind
call-requires-clause-kind g c =
    let schema = c.args.schema.now in
    let place = c.args.guard.now.place in
    ap (λ k. is_kind k c.in_ok-arg.arg) c.requires.suits.argument
    ∙ ap (is_kind (kind_at schema place)) (c.in_ok-arg.ensures ∙ c.field.ensures)
    ∙ field_kind schema c.args.row.now place c.requires.row c.requires.suits.place

pub returns-in-Bool : goal.returns-in-Bool
returns-in-Bool g c =
    answered (host_at (specs_of c.args.hosts.now.names) c.args.guard.now.host) (bool_answer c.in-Bool.yes) c.in_ok-arg.arg (field_at c.args.schema.now c.args.row.now c.args.guard.now.place) (c.in_ok-arg.ensures ∙ c.field.ensures) c.in-Bool.ensures.answer

pub returns : goal.returns
returns g c =
    answered (host_at (specs_of c.args.hosts.now.names) c.args.guard.now.host) (int_answer c.in-Int.field-0) c.in_ok-arg.arg (field_at c.args.schema.now c.args.row.now c.args.guard.now.place) (c.in_ok-arg.ensures ∙ c.field.ensures) c.in-Int.ensures.answer
