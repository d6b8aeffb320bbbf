use Rattle.std.proofs.Common.{◌≡◌, arith, sym, ap, subst, ◌∙◌, Some, length}
use Rattle.std.specs.Prelude.{slice_get}
use Rattle.std.specs.BTreeMap.{get, Updates}
use Rattle.hera_stacks.specs.Kept.{order, AreFound}
use Rattle.hera_stacks.proofs.Keeping.{found_put, found_push, pushed_at}
use Rattle.hera_stacks.proofs.entries.Entries.add.Goals as goal

pub returns-in_err-push-clause-found : goal.returns-in_err-push-clause-found
returns-in_err-push-clause-found c =
    let entries = c.args.self.now.all.items in
    let before = c.args.self.now.places in
    let after = c.insert.new.self in
    let long : c.in_ok-place.place ≡ length entries = omega (arith, c.in_ok-place.ensures, c.len.ensures, c.args.self.now.all.ok.0) in
    let none = sym (ap (get order before) c.requires.own) ∙ c.requires.absent in
    let updates = subst (λ k. Updates order before after k (Some (length entries))) c.requires.own (subst (λ v. Updates order before after c.args.numbers (Some v)) long c.in_ok-insert.ensures.updates) in
    subst (λ xs. AreFound xs after) (sym c.in_err-push.ensures.items) (found_put entries before after c.args.entry c.requires.found none updates)

pub returns-clause-found : goal.returns-clause-found
returns-clause-found c =
    let entries = c.args.self.now.all.items in
    let before = c.args.self.now.places in
    let after = c.insert.new.self in
    let long : c.in_ok-place.place ≡ length entries = omega (arith, c.in_ok-place.ensures, c.len.ensures, c.args.self.now.all.ok.0) in
    let none = sym (ap (get order before) c.requires.own) ∙ c.requires.absent in
    let updates = subst (λ k. Updates order before after k (Some (length entries))) c.requires.own (subst (λ v. Updates order before after c.args.numbers (Some v)) long c.in_ok-insert.ensures.updates) in
    subst (λ xs. AreFound xs after) (sym c.in_ok-push.ensures.items) (found_push entries before after c.args.entry c.requires.found none updates)

pub returns-clause-place : goal.returns-clause-place
returns-clause-place c =
    let entries = c.args.self.now.all.items in
    let long : c.in_ok-place.place ≡ length entries = omega (arith, c.in_ok-place.ensures, c.len.ensures, c.args.self.now.all.ok.0) in
    ap (λ xs. slice_get xs c.in_ok-place.place) c.in_ok-push.ensures.items ∙ pushed_at entries c.args.entry c.in_ok-place.place long
