use Rattle.std.proofs.Common.{◌≡◌, length}
use Rattle.hera_sets.specs.Rows.{Row}
use Rattle.hera_meaning.specs.declared.scalars.Sign.TheVariants.{Plus}
use Rattle.when_overlay.specs.Seeking.{named, sign_over}
use Rattle.when_overlay.proofs.naming.up_to_naming.Given as goal

-- the deltas behind say nothing
abbrev pub invariant-loop-last : goal.invariant-loop-last
invariant-loop-last l = record {
  signs : (q : Row) → sign_over l.rel.0 l.rest q ≡ sign_over l.rel.0 l.deltas q;
  puts : named l.rel.0 Plus l.rest ≡ named l.rel.0 Plus l.deltas;
}

abbrev pub decreases-loop-last : goal.decreases-loop-last
decreases-loop-last l = length l.rest
