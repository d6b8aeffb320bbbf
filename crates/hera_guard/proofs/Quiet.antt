-- Without guards nothing is refused.
use Rattle.std.proofs.Common.{◌≡◌, ℕ, suc, true, false, cond, List, [], ◌∷◌, ◌++◌, Option, None, refl, ap, ◌∙◌}
use Rattle.std.specs.Prelude.{is_some}
use Rattle.std.specs.Option.{option_map}
use Rattle.hera_sets.specs.Rows.{Row}
use Rattle.hera_meaning.specs.declared.schemas.Attr.{Attr}
use Rattle.hera_meaning.specs.declared.schemas.RelDecl.{RelDecl}
use Rattle.hera_meaning.specs.Deltas.{State}
use Rattle.hera_meaning.specs.Hosts.{Hosts}
use Rattle.hera_meaning.specs.Worlds.{Event, out, store}
use Rattle.hera_meaning.specs.Run.{Report}
use Rattle.hera_host.specs.Tables.{Host, specs_of}
use Rattle.hera_guard.specs.Guards.{rows_breaks, breaks_from, first}
use Rattle.hera_guard.specs.Guarded.{break_text, guard_name, refusal_of, or_line, guarded, passes, ends, refused, guarded_report, guarded_from}

no_rows : (hosts : Hosts) (schema : List Attr) (r : ℕ) (rows : List Row) → rows_breaks hosts [] schema r rows ≡ []
no_rows hosts schema r [] = refl
no_rows hosts schema r (row ∷ rows) = no_rows hosts schema r rows

no_breaks : (hosts : Hosts) (r : ℕ) (rels : List RelDecl) (s : State) → breaks_from hosts [] r rels s ≡ []
no_breaks hosts r [] s = refl
no_breaks hosts r (d ∷ rels) [] = refl
no_breaks hosts r (d ∷ rels) (rows ∷ s) = ap (λ xs. xs ++ breaks_from hosts [] (suc r) rels s) (no_rows hosts d.schema r rows) ∙ no_breaks hosts (suc r) rels s

pub no_refusal : (hosts : List Host) (rels : List RelDecl) (s : State) → refusal_of hosts [] rels s ≡ None
no_refusal hosts rels s = ap (λ bs. option_map (λ b. break_text rels (guard_name hosts [] b.guard) b) (first bs)) (no_breaks (specs_of hosts) 0 rels s)

module _ (refusal : State → Option (List ℕ)) (quiet : (s : State) → refusal s ≡ None) where
  all_kept : (events : List Event) → guarded refusal events ≡ events
  all_kept [] = refl
  all_kept (out bytes ∷ events) = ap (λ es. out bytes ∷ es) (all_kept events)
  all_kept (store s d ∷ events) = ap (λ o. or_line o (store s d ∷ guarded refusal events)) (quiet s) ∙ ap (λ es. store s d ∷ es) (all_kept events)

  all_pass : (events : List Event) → passes refusal events ≡ true
  all_pass [] = refl
  all_pass (out bytes ∷ events) = all_pass events
  all_pass (store s d ∷ events) = ap (λ o. cond (is_some o) false (passes refusal events)) (quiet s) ∙ all_pass events

  pub same_report : (s : State) (report : Report) → guarded_from (refusal s) (guarded_report refusal report) ≡ record { events = report.events; finish = ends report.finish }
  same_report s report =
      ap (λ o. guarded_from o (guarded_report refusal report)) (quiet s)
      ∙ (λ i. record { events = all_kept report.events i; finish = cond (all_pass report.events i) (ends report.finish) refused })
