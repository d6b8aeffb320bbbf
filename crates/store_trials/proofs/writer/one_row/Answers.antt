use Rattle.std.proofs.Common.{List, [], ◌∷◌, refl, sym, subst, ◌∙◌, ap, ◌++◌}
use Rattle.std.specs.Prelude.{All}
use Rattle.std.proofs.lemmas.List.Elements.{All-nil, All-cons}
use Rattle.hera_sets.specs.Rows.{Row}
use Rattle.hera_meaning.specs.Rows.{IsRow}
use Rattle.store_trials.proofs.writer.one_row.Goals as goal

pub returns-then-len-eq0 : goal.returns-then-len-eq0
returns-then-len-eq0 c =
    let row = IsRow c.args.schema.now in
    record { schema = c.args.schema.now; valid = c.len.ensures.valid; each = subst (All row) (sym c.new-rows.ensures) (All-nil row) }

pub returns : goal.returns
returns c =
    let row = IsRow c.args.schema.now in
    let all = All-cons row (1 ∷ []) [] (c.if-not-check_row.ensures.0 refl) (All-nil row) in
    record {
      schema = c.args.schema.now;
      valid = c.len.ensures.valid;
      each = subst (All row) (sym (c.in_ok-push_last.ensures.ok ∙ ap (λ (l : List Row). l ++ (1 ∷ []) ∷ []) c.new-rows.ensures)) all;
    }
