use Rattle.std.proofs.Common.{arith, ◌∙◌, refl, Some, None}
use Rattle.delta_atoms.proofs.Nexts.{lesser_found, none_found, past_lower, past_same, past_higher}
use Rattle.delta_atoms.proofs.parts.DeltaPart.above.Goals as goal

pub returns-in-None : goal.returns-in-None
returns-in-None c = rw c.in-None.is (c.next.ensures ∙ lesser_found c.args.self.now None None c.requires (λ x. refl))

pub returns-then-last-self : goal.returns-then-last-self
returns-then-last-self c =
    rw c.in-Some.is
    (c.next-then-last-self.ensures
    ∙ lesser_found c.args.self.now (Some _) None c.requires (λ x. past_lower c.in-Some.last.rel.0 c.args.self.now.rel.0 c.in-Some.last.row.now x c.if-last-self.true))

pub returns-then-last-self-2 : goal.returns-then-last-self-2
returns-then-last-self-2 c =
    rw c.in-Some.is
    (c.next-then-last-self-2.ensures
    ∙ lesser_found c.args.self.now (Some _) (Some c.in-Some.last.row.now) c.requires (λ x. past_same c.in-Some.last.rel.0 c.args.self.now.rel.0 c.in-Some.last.row.now x c.if-last-self-2.true))

pub returns-else-last-self-2 : goal.returns-else-last-self-2
returns-else-last-self-2 c =
    rw c.in-Some.is
    (none_found c.args.self.now (Some _) c.requires (λ x. past_higher c.in-Some.last.rel.0 c.args.self.now.rel.0 c.in-Some.last.row.now x (omega arith)))
