use Rattle.std.proofs.Common.{[], ◌∙◌, sym}
use Rattle.hera_frames.specs.Items.{item_of}
use Rattle.hera_frames.proofs.Joining.{two_deltas}
use Rattle.hera_frames.proofs.operands.Operands.are_deltas.Goals as goal

pub returns : goal.returns
returns c = λ h.
    two_deltas c.args.self.now.items (item_of c.in-Some-newest.before.now) (item_of c.in-Some.newest.now) c.in-Some.ensures c.in-Some-newest.ensures
    (sym (c.is_delta-2.ensures [] []) ∙ h) (sym (c.is_delta.ensures [] []) ∙ c.if-not-is_delta.false)
