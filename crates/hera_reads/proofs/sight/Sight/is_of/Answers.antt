use Rattle.std.proofs.Common.{◌≡◌, true, List, ◌∙◌, sym, subst}
use Rattle.std.specs.Prelude.{IfSome}
use Rattle.std.specs.List.{list_all}
use Rattle.hera_sets.specs.Rows.{Row}
use Rattle.hera_meaning.specs.Rows.{is_row}
use Rattle.hera_reads.proofs.Known.{pass_alike}
use Rattle.hera_reads.proofs.sight.Sight.is_of.Goals as goal

pub returns-in-Some : goal.returns-in-Some
returns-in-Some c h =
    let own = subst (λ o. IfSome o (λ s. list_all (is_row s.now) c.self.inside.rows ≡ true)) c.in-Some.is c.self.invariant in
    pass_alike c.args.schema.now c.in-Some.own.now c.args.self.now (sym c.have_same_kinds.ensures ∙ h) (subst (λ (xs : List Row). list_all (is_row c.in-Some.own.now) xs ≡ true) c.self.view_is own)
