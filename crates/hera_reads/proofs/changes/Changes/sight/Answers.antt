use Rattle.std.proofs.Common.{◌≡◌, true, Some, ◌∙◌, ap, sym, subst, List}
use Rattle.std.specs.Prelude.{slice_get}
use Rattle.std.specs.List.{list_all}
use Rattle.std.proofs.lemmas.Option.{IfSome_then}
use Rattle.hera_sets.specs.Rows.{Row}
use Rattle.hera_meaning.specs.Rows.{is_row}
use Rattle.hera_reads.specs.Branched.{seen_at}
use Rattle.hera_reads.proofs.Naming.{rows_got}
use Rattle.hera_reads.proofs.changes.Changes.sight.Goals as goal

pub new-requires : goal.new-requires
new-requires c =
    let s = c.args.stored.now.state in
    let ls = c.args.self.now.layers in
    IfSome_then c.known_schema-schema.result c.known_schema-schema.ensures
    (λ schema all. subst (λ (xs : List Row). list_all (is_row schema.now) xs ≡ true) (rows_got (seen_at s ls c.there-tip.result) c.args.rel.0 c.rel.result c.rel.ensures) (all c.there-tip.result c.there-tip.ensures.within))

pub returns : goal.returns
returns c =
    ap (λ t. slice_get t c.args.rel.0) (sym (c.there-tip.ensures.seen c.args.stored.now.state))
    ∙ c.rel.ensures ∙ ap Some (sym c.new.ensures)
