use Rattle.std.proofs.Common.{sym, subst, Some}
use Rattle.std.specs.Prelude.{IfOk}
use Rattle.hera_host.specs.Tables.{specs_of}
use Rattle.hera_typed.specs.Notes.{notes_of}
use Rattle.hera_effects.specs.Ways.{Both}
use Rattle.hera_effects.specs.Plain.{IsPlain, plain}
use Rattle.hera_effects.proofs.plain.plain_of.Goals as goal

pub returns-in-Load : goal.returns-in-Load
returns-in-Load g c = subst (λ x. IfOk c.load.result (λ r. Both IsPlain r (plain c.args.around.now.code.now c.args.around.now.relations.now (specs_of c.args.around.now.hosts.now.names) (notes_of c.args.around.now.notes.now) c.args.k c.args.a x))) (sym c.in-Load.is) (c.load.ensures c.args.around.now.relations.now (specs_of c.args.around.now.hosts.now.names))

pub returns-in-Store : goal.returns-in-Store
returns-in-Store g c = subst (λ x. IfOk c.store.result (λ r. Both IsPlain r (plain c.args.around.now.code.now c.args.around.now.relations.now (specs_of c.args.around.now.hosts.now.names) (notes_of c.args.around.now.notes.now) c.args.k c.args.a x))) (sym c.in-Store.is) (c.store.ensures c.args.around.now.code.now c.args.around.now.relations.now (specs_of c.args.around.now.hosts.now.names))

pub returns-in-Rel : goal.returns-in-Rel
returns-in-Rel g c = subst (λ x. IfOk c.rel.result (λ r. Both IsPlain r (plain c.args.around.now.code.now c.args.around.now.relations.now (specs_of c.args.around.now.hosts.now.names) (notes_of c.args.around.now.notes.now) c.args.k c.args.a x))) (sym c.in-Rel.is) (c.rel.ensures c.args.around.now.code.now (specs_of c.args.around.now.hosts.now.names) (notes_of c.args.around.now.notes.now) c.args.k)

pub returns-in-Host : goal.returns-in-Host
returns-in-Host g c = subst (λ x. IfOk c.host.result (λ r. Both IsPlain r (plain c.args.around.now.code.now c.args.around.now.relations.now (specs_of c.args.around.now.hosts.now.names) (notes_of c.args.around.now.notes.now) c.args.k c.args.a x))) (sym c.in-Host.is) (c.host.ensures c.args.around.now.code.now c.args.around.now.relations.now (notes_of c.args.around.now.notes.now) c.args.k)

pub returns-in-Unless : goal.returns-in-Unless
returns-in-Unless g c = subst (λ x. Both IsPlain (Some c.unless.result) (plain c.args.around.now.code.now c.args.around.now.relations.now (specs_of c.args.around.now.hosts.now.names) (notes_of c.args.around.now.notes.now) c.args.k c.args.a x)) (sym c.in-Unless.is) (c.unless.ensures c.args.around.now.code.now c.args.around.now.relations.now (specs_of c.args.around.now.hosts.now.names) (notes_of c.args.around.now.notes.now) c.args.k)

pub returns-in-Ret : goal.returns-in-Ret
returns-in-Ret g c = subst (λ x. Both IsPlain c.ret.result (plain c.args.around.now.code.now c.args.around.now.relations.now (specs_of c.args.around.now.hosts.now.names) (notes_of c.args.around.now.notes.now) c.args.k c.args.a x)) (sym c.in-Ret.is) (c.ret.ensures c.args.around.now.code.now c.args.around.now.relations.now (specs_of c.args.around.now.hosts.now.names) c.args.a)

pub returns-in-RetVal : goal.returns-in-RetVal
returns-in-RetVal g c = subst (λ x. IfOk c.ret_val.result (λ r. Both IsPlain r (plain c.args.around.now.code.now c.args.around.now.relations.now (specs_of c.args.around.now.hosts.now.names) (notes_of c.args.around.now.notes.now) c.args.k c.args.a x))) (sym c.in-RetVal.is) (c.ret_val.ensures c.args.around.now.code.now c.args.around.now.relations.now (specs_of c.args.around.now.hosts.now.names) c.args.a)
