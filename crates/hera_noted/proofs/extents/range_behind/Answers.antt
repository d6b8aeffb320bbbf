-- The end is counted from the beginning of the body.
use Rattle.std.proofs.Common.{◌≡◌, ◌<◌, ◌≤◌, ◌+◌, ◌-◌, ℕ, refl, sym, ◌∙◌, subst, arith}
use Rattle.std.specs.Prelude.{Some, IfSome, slice_get, slice_index_or}
use Rattle.std.proofs.lemmas.Option.{slice_get-get_or}
use Rattle.hera_typed.proofs.Asking.{some_is}
use Rattle.hera_noted.proofs.extents.range_behind.Goals as goal

pub overflow_add-result-in-Some-2 : goal.overflow_add-result-in-Some-2
overflow_add-result-in-Some-2 c =
    let w = subst (λ o. IfSome o (λ a. (c.args.body.start ≤ a) × (a < c.args.body.end))) c.in-Some.is c.requires.write in
    let low = w.0 in
    let high = w.1 in
    let long = c.requires.long in
    let n : ℕ = c.args.body.end - (c.in-Some.at + 1) in
    let within = c.requires.within n _ (slice_get-get_or c.args.ends.now n 0 (omega (arith, low, high, long))) in
    omega (arith, low, high, within)

pub returns-in-Some-clause-some : goal.returns-in-Some-clause-some
returns-in-Some-clause-some c a e =
    let w = subst (λ o. IfSome o (λ a. (c.args.body.start ≤ a) × (a < c.args.body.end))) c.in-Some.is c.requires.write in
    let low = w.0 in
    let high = w.1 in
    let long = c.requires.long in
    let n : ℕ = c.args.body.end - (c.in-Some.at + 1) in
    let v : ℕ = slice_index_or c.args.ends.now n 0 in
    let here = slice_get-get_or c.args.ends.now n 0 (omega (arith, low, high, long)) in
    let same : c.in-Some.at ≡ a = some_is c.in-Some.at a (sym c.in-Some.is ∙ e) in
    subst (λ b. (c.in-Some.at + 1 ≡ b + 1) × ((x : ℕ) × (slice_get c.args.ends.now (c.args.body.end - (b + 1)) ≡ Some x) × (c.args.body.start + v ≡ c.args.body.start + x))) same (refl, (v, here, refl))
