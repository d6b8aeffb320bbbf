use Rattle.std.proofs.Common.{◌≡◌, ◌*◌, ◌∙◌, Bool, true, false, not, refl, sym, ap, subst, drop, take}
use Rattle.hera_sets.specs.Rows.{IsAscending}
use Rattle.rel_pages.specs.Rels.{passes, pages_rows, leading}
use Rattle.rel_pages.proofs.Searches.{page_here, none_before}
use Rattle.rel_pages.proofs.near.leads.Goals as goal

off : (v : Bool) → not v ≡ true → v ≡ false
off false h = refl
off true h = sym h

pub returns : goal.returns
returns c = λ h.
    let here = page_here c.args.schema.now c.args.page c.args.count c.args.number c.args.pages.now c.requires.within c.requires.pages in
    none_before c.args.bound (pages_rows c.args.schema.now c.args.page c.args.number c.args.pages.now) (leading c.args.schema.now (drop 4 (take c.args.page (drop (c.args.number * c.args.page) c.args.pages.now)))) here.rest
    (subst IsAscending here.rows c.requires.ascending) (ap (passes c.args.bound) (sym c.leading_at.ensures) ∙ sym c.passes.ensures ∙ off c.passes.result h)
