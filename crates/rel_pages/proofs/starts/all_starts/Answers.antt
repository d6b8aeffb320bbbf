use Rattle.std.proofs.Common.{◌≡◌, ◌++◌, ◌∷◌, [], List, Vec, All, sym, ap, subst, length, arith}
use Rattle.std.specs.Global.{Global}
use Rattle.std.proofs.lemmas.List.{length-append}
use Rattle.std.proofs.lemmas.List.Elements.{All-take, All-drop}
use Rattle.rel_pages.specs.declared.starts.RowStart.{RowStart}
use Rattle.rel_pages.specs.Starts.{AreStarts, IsRead}
use Rattle.rel_pages.proofs.Beginnings.{next_list}
use Rattle.rel_pages.proofs.starts.all_starts.Goals as goal

pub loop-number-preserved : goal.loop-number-preserved
loop-number-preserved c =
    let lists = c.loop-number.lists.items in
    let list : Vec RowStart Global = c.in_ok-starts.starts in
    let more : c.push.new.self.items ≡ lists ++ list ∷ [] = c.in_ok-push.ensures.items in
    let size = ap (λ (x : List (Vec RowStart Global)). length x) more in
    let count = c.loop-number.invariant.count in
    record {
      count = omega (arith, size, count, length-append lists (list ∷ []));
      starts = subst (AreStarts c.args.page c.args.catalogue.now c.args.parts.now c.args.bytes.now) (sym more)
          (next_list c.args.page c.args.catalogue.now c.args.parts.now c.args.bytes.now lists list c.loop-number.number count c.loop-number.invariant.starts c.in_ok-starts.ensures);
      read = subst (All (IsRead c.args.catalogue.now c.args.bytes.now)) (sym c.split_at.ensures.back) (All-drop (IsRead c.args.catalogue.now c.args.bytes.now) c.count_of.result c.loop-number.rest.now c.loop-number.invariant.read);
    }

pub starts_of-requires-clause-read : goal.starts_of-requires-clause-read
starts_of-requires-clause-read c = subst (All (IsRead c.args.catalogue.now c.args.bytes.now)) (sym c.split_at.ensures.front) (All-take (IsRead c.args.catalogue.now c.args.bytes.now) c.count_of.result c.loop-number.rest.now c.loop-number.invariant.read)
