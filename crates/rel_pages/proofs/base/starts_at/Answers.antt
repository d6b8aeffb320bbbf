use Rattle.std.proofs.Common.{inr}
use Rattle.rel_pages.proofs.Beginnings.{list_there}
use Rattle.rel_pages.proofs.base.starts_at.Goals as goal

pub returns-in-Some : goal.returns-in-Some
returns-in-Some c = inr (c.in-Some.starts.now, list_there c.args.lists.now c.args.rel.0 c.in-Some.starts.now c.in-Some.ensures.lookup.0 c.in-Some.ensures.lookup.1, c.as_slice.ensures.value)
