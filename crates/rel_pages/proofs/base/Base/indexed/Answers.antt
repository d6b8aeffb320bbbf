use Rattle.std.proofs.Common.{◌≡◌, ◌∙◌, List, ℕ, Some, All, sym, ap, subst, length, length-drop, take, drop, arith}
use Rattle.std.specs.Prelude.{slice_get}
use Rattle.rel_format.specs.Versions.{format_of}
use Rattle.rel_pages.specs.Stored.{Stored}
use Rattle.rel_pages.specs.Parts.{part_bytes}
use Rattle.rel_pages.specs.Rels.{IsPaged, rows_in}
use Rattle.rel_pages.specs.Starts.{IsStart}
use Rattle.rel_pages.proofs.Bases.{rel_part, no_rel}
use Rattle.rel_pages.proofs.Beginnings.{rel_starts, part_there}
use Rattle.rel_pages.proofs.base.Base.indexed.Goals as goal

pub unreachable-requires : goal.unreachable-requires
unreachable-requires c =
    no_rel (format_of c.self.inside.version) c.self.inside.catalogue c.args.self.now.catalogue c.self.inside.parts.items c.deref.result.now c.self.inside.bytes.items c.self.inside.journal c.args.rel.0 c.self.invariant.0 c.requires (ap (λ (b : Stored). b.catalogue) c.self.view_is) c.deref.ensures.value c.in_default.ensures.lookup.0

pub rest_at-requires : goal.rest_at-requires
rest_at-requires c =
    let here = rel_part (format_of c.self.inside.version) c.self.inside.catalogue c.self.inside.parts.items c.deref.result.now c.self.inside.bytes.items c.self.inside.journal c.args.rel.0 c.decl.result.now c.in-Some.part.now c.self.invariant.0 c.decl.ensures.decl c.deref.ensures.value c.in-Some.ensures.lookup.0 c.in-Some.ensures.lookup.1 in
    let same = ap (λ (x : List ℕ). length x) c.deref-2.ensures.value in
    omega (arith, here.within, same)

pub split_at-requires : goal.split_at-requires
split_at-requires c =
    let here = rel_part (format_of c.self.inside.version) c.self.inside.catalogue c.self.inside.parts.items c.deref.result.now c.self.inside.bytes.items c.self.inside.journal c.args.rel.0 c.decl.result.now c.in-Some.part.now c.self.invariant.0 c.decl.ensures.decl c.deref.ensures.value c.in-Some.ensures.lookup.0 c.in-Some.ensures.lookup.1 in
    let same = ap (λ (x : List ℕ). length x) c.deref-2.ensures.value in
    let rest = ap (λ (x : List ℕ). length x) c.rest_at.ensures in
    omega (arith, here.within, same, rest, length-drop c.in-Some.part.now.at c.deref-2.result.now)

pub invariant_of-result : goal.invariant_of-result
invariant_of-result c =
    let here = rel_part (format_of c.self.inside.version) c.self.inside.catalogue c.self.inside.parts.items c.deref.result.now c.self.inside.bytes.items c.self.inside.journal c.args.rel.0 c.decl.result.now c.in-Some.part.now c.self.invariant.0 c.decl.ensures.decl c.deref.ensures.value c.in-Some.ensures.lookup.0 c.in-Some.ensures.lookup.1 in
    let own : c.split_at.result.0.now ≡ part_bytes c.self.inside.bytes.items c.in-Some.part.now = c.split_at.ensures.front ∙ ap (take c.in-Some.part.now.len) (c.rest_at.ensures ∙ ap (drop c.in-Some.part.now.at) c.deref-2.ensures.value) in
    let listed = part_there c.deref.result.now c.self.inside.parts.items c.args.rel.0 c.in-Some.part.now c.deref.ensures.value c.in-Some.ensures.lookup.0 c.in-Some.ensures.lookup.1 in (
      subst (IsPaged c.decl.result.now.schema c.page.result) (sym own) (subst (λ (n : ℕ). IsPaged c.decl.result.now.schema n (part_bytes c.self.inside.bytes.items c.in-Some.part.now)) (sym c.page.ensures) here.paged),
      subst (λ (x : List ℕ). All (IsStart c.decl.result.now.schema c.page.result x) c.starts_at.result.now) (sym own)
          (subst (λ (n : ℕ). All (IsStart c.decl.result.now.schema n (part_bytes c.self.inside.bytes.items c.in-Some.part.now)) c.starts_at.result.now) (sym c.page.ensures)
          (rel_starts (format_of c.self.inside.version).page c.self.inside.catalogue c.self.inside.parts.items c.self.inside.bytes.items c.self.inside.starts.items c.deref-3.result.now c.args.rel.0 c.decl.result.now c.in-Some.part.now c.starts_at.result.now c.self.invariant.1 c.decl.ensures.decl listed c.deref-3.ensures.value c.starts_at.ensures)),
    )

pub returns : goal.returns
returns c =
    let here = rel_part (format_of c.self.inside.version) c.self.inside.catalogue c.self.inside.parts.items c.deref.result.now c.self.inside.bytes.items c.self.inside.journal c.args.rel.0 c.decl.result.now c.in-Some.part.now c.self.invariant.0 c.decl.ensures.decl c.deref.ensures.value c.in-Some.ensures.lookup.0 c.in-Some.ensures.lookup.1 in
    ap (λ (b : Stored). slice_get b.state c.args.rel.0) (sym c.self.view_is) ∙ here.rows_are
    ∙ ap (λ (n : ℕ). Some (rows_in c.decl.result.now.schema n (part_bytes c.self.inside.bytes.items c.in-Some.part.now))) (sym c.page.ensures)
    ∙ ap (λ (x : List ℕ). Some (rows_in c.decl.result.now.schema c.page.result x)) (sym (c.split_at.ensures.front ∙ ap (take c.in-Some.part.now.len) (c.rest_at.ensures ∙ ap (drop c.in-Some.part.now.at) c.deref-2.ensures.value)))
