use Rattle.std.proofs.Common.{◌<◌, ◌∙◌, ℕ, List, drop, get_or, refl, sym, ap, subst, arith}
use Rattle.std.specs.Ordering.{nat_cmp}
use Rattle.std.specs.Cmp.Lexicographic.{slice_cmp}
use Rattle.std.specs.Int.{from_be_bytes, w64}
use Rattle.hera_sets.proofs.Words.{words_differ, words_same, bytes_behind}
use Rattle.hera_sets.proofs.compare.byte_order.Goals as goal

pub loop-x-init : goal.loop-x-init
loop-x-init c = record { stands = refl; bytes = λ i. let f = c.type_inv.a i in omega (arith, f); other = λ i. let f = c.type_inv.b i in omega (arith, f) }

pub returns-then-x-y : goal.returns-then-x-y
returns-then-x-y c =
    let x = c.in-Some-Some.ensures.cases in
    let y = c.in-Some-Some.ensures'.cases in
    c.cmp.ensures
    ∙ words_differ c.loop-x.left.now c.loop-x.right.now c.loop-x.invariant.bytes c.loop-x.invariant.other (let n = x.2 in omega (arith, n)) (let n = y.2 in omega (arith, n)) c.from_be_bytes-x.result c.from_be_bytes-y.result
    (c.from_be_bytes-x.ensures ∙ ap (from_be_bytes w64) x.0) (c.from_be_bytes-y.ensures ∙ ap (from_be_bytes w64) y.0) c.if-x-y.true
    ∙ c.loop-x.invariant.stands

pub loop-x-preserved : goal.loop-x-preserved
loop-x-preserved c =
    let x = c.in-Some-Some.ensures.cases in
    let y = c.in-Some-Some.ensures'.cases in
    record {
      stands =
          ap (λ (zs : List ℕ). slice_cmp nat_cmp zs c.in-Some-Some.behind_y.now) x.1 ∙ ap (slice_cmp nat_cmp (drop 8 c.loop-x.left.now)) y.1
          ∙ words_same c.loop-x.left.now c.loop-x.right.now c.loop-x.invariant.bytes c.loop-x.invariant.other (let n = x.2 in omega (arith, n)) (let n = y.2 in omega (arith, n)) c.from_be_bytes-x.result c.from_be_bytes-y.result
          (c.from_be_bytes-x.ensures ∙ ap (from_be_bytes w64) x.0) (c.from_be_bytes-y.ensures ∙ ap (from_be_bytes w64) y.0) c.if-x-y.false
          ∙ c.loop-x.invariant.stands;
      bytes = subst (λ (zs : List ℕ). (i : ℕ) → get_or zs i 0 < 256) (sym x.1) (bytes_behind 8 c.loop-x.left.now c.loop-x.invariant.bytes);
      other = subst (λ (zs : List ℕ). (i : ℕ) → get_or zs i 0 < 256) (sym y.1) (bytes_behind 8 c.loop-x.right.now c.loop-x.invariant.other);
    }
