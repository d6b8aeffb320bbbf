use Rattle.std.proofs.Common.{arith, ap, sym, subst, ◌<◌}
use Rattle.delta_atoms.specs.declared.parts.DeltaPart.{DeltaPart}
use Rattle.delta_atoms.proofs.Places.{front_more, rest_more, place_split}
use Rattle.delta_atoms.proofs.parts.search.Goals as goal

pub loop-low-preserved-then-found-rel : goal.loop-low-preserved-then-found-rel
loop-low-preserved-then-found-rel c =
    record {
      front = front_more c.args.rel.0 c.args.parts.now _ c.index-parts-middle.result c.requires (omega arith) c.index-parts-middle.is (subst (λ (p : DeltaPart). p.rel.0 < c.args.rel.0) (sym c.index-parts-middle.is) c.if-found-rel.true);
      rest = c.loop-low.invariant.rest;
      ordered = omega arith;
      within = c.loop-low.invariant.within;
    }

pub loop-low-preserved : goal.loop-low-preserved
loop-low-preserved c =
    record {
      front = c.loop-low.invariant.front;
      rest = rest_more c.args.rel.0 c.args.parts.now _ c.index-parts-middle.result c.requires (omega arith) c.index-parts-middle.is (subst (λ (p : DeltaPart). c.args.rel.0 < p.rel.0) (sym c.index-parts-middle.is) c.if-rel-found.true);
      ordered = omega arith;
      within = omega arith;
    }

pub returns-else-rel-found : goal.returns-else-rel-found
returns-else-rel-found c =
    record {
      part = c.index-parts-middle.result;
      within = omega arith;
      split = place_split c.args.parts.now _ c.index-parts-middle.result (omega arith) c.index-parts-middle.is;
      rel = omega (arith, ap (λ (p : DeltaPart). p.rel.0) c.index-parts-middle.is);
    }
