use Rattle.std.proofs.Common.{◌≡◌}
use Rattle.hera_sets.specs.Rows.{Row}
use Rattle.hera_meaning.specs.declared.scalars.Sign.TheVariants.{Plus}
use Rattle.when_overlay.specs.Layered.{IsTip, path}
use Rattle.when_overlay.specs.Seeking.{named, sign_over}
use Rattle.when_overlay.proofs.Layering.{height}
use Rattle.when_overlay.proofs.naming.newest_naming.Given as goal

-- the layers above say nothing
abbrev pub invariant-loop-at : goal.invariant-loop-at
invariant-loop-at l = record {
  signs : (q : Row) → sign_over l.rel.0 (path l.layers.layers l.at) q ≡ sign_over l.rel.0 (path l.layers.layers l.fn.tip) q;
  puts : named l.rel.0 Plus (path l.layers.layers l.at) ≡ named l.rel.0 Plus (path l.layers.layers l.fn.tip);
  tip : IsTip l.layers.layers l.at;
}

abbrev pub decreases-loop-at : goal.decreases-loop-at
decreases-loop-at l = height l.at
