use Rattle.std.proofs.Common.{◌≡◌, ◌++◌, ◌∷◌, [], List, take, length, sym, ap, subst, ◌∙◌, arith}
use Rattle.hera_meaning.specs.Deltas.{Delta}
use Rattle.commit_levels.specs.Merging.{AreFalling}
use Rattle.commit_levels.proofs.Mergings.{take_set, take_whole, does_pushed, known_pushed, proper_pushed}
use Rattle.commit_levels.proofs.levels.Levels.push.Goals as goal

replaced : (c : goal.After-truncate) → c.truncate.new.self.items ≡ take c.in_ok-keep.field-0.keep c.args.self.now ++ c.in_ok-keep.field-0.newest ∷ []
replaced c =
    c.truncate.ensures.items ∙ take_set c.self.inside.deltas.items c.in_ok-keep.field-0.keep c.in_ok-keep.field-0.newest (omega (arith, c.if-keep-len.true, c.len.ensures))
    ∙ ap (λ (ds : List Delta). take c.in_ok-keep.field-0.keep ds ++ c.in_ok-keep.field-0.newest ∷ []) c.self.view_is

pub invariant_of-self : goal.invariant_of-self
invariant_of-self c = (proper_pushed c.args.self.now c.truncate.new.self.items c.args.delta.now c.in_ok-keep.field-0.newest c.in_ok-keep.field-0.keep c.in_ok-keep.ensures.merged (replaced c) (ap (λ (ds : List Delta). Rattle.std.specs.List.list_all Rattle.commit_levels.specs.Merging.is_proper ds) (sym c.self.view_is) ∙ c.self.invariant.0), subst AreFalling (sym (replaced c)) c.in_ok-keep.ensures.falls)

pub returns-then-keep-len-clause-does : goal.returns-then-keep-len-clause-does
returns-then-keep-len-clause-does c = does_pushed c.args.self.now c.truncate.new.self.items c.args.delta.now c.in_ok-keep.field-0.newest c.in_ok-keep.field-0.keep c.in_ok-keep.ensures.merged (replaced c)

pub returns-then-keep-len-clause-known : goal.returns-then-keep-len-clause-known
returns-then-keep-len-clause-known c = known_pushed c.args.self.now c.truncate.new.self.items c.args.delta.now c.in_ok-keep.field-0.newest c.in_ok-keep.field-0.keep c.in_ok-keep.ensures.merged (replaced c)

added : (c : goal.In_ok-push) → c.push.new.self.items ≡ take c.in_ok-keep.field-0.keep c.args.self.now ++ c.in_ok-keep.field-0.newest ∷ []
added c = c.in_ok-push.ensures.items ∙ ap (λ (ds : List Delta). ds ++ c.in_ok-keep.field-0.newest ∷ []) (c.self.view_is ∙ sym (take_whole c.args.self.now c.in_ok-keep.field-0.keep (omega (arith, c.if-keep-len.false, c.len.ensures, ap (λ (ds : List Delta). length ds) c.self.view_is))))

pub returns-in_ok-push-clause-does : goal.returns-in_ok-push-clause-does
returns-in_ok-push-clause-does c = does_pushed c.args.self.now c.push.new.self.items c.args.delta.now c.in_ok-keep.field-0.newest c.in_ok-keep.field-0.keep c.in_ok-keep.ensures.merged (added c)

pub returns-in_ok-push-clause-known : goal.returns-in_ok-push-clause-known
returns-in_ok-push-clause-known c = known_pushed c.args.self.now c.push.new.self.items c.args.delta.now c.in_ok-keep.field-0.newest c.in_ok-keep.field-0.keep c.in_ok-keep.ensures.merged (added c)
