use Rattle.std.proofs.Common.{◌≡◌, List, [], ◌∷◌, ◌++◌, length, refl, sym, ap, subst, ◌∙◌, arith}
use Rattle.std.proofs.lemmas.Bool.{eqb-true}
use Rattle.hera_meaning.specs.Commits.{IsSmashOf}
use Rattle.hera_meaning.specs.Deltas.{Delta}
use Rattle.hera_meaning.proofs.CommitLaws.{smash_all_is}
use Rattle.hera_store.proofs.Smashes.{as_good_none, as_good_one}
use Rattle.hera_store.proofs.opening.as_one.Goals as goal

no_length : (ds : List Delta) → length ds ≡ 0 → ds ≡ []
no_length [] e = refl
no_length (d ∷ ds) e = absurd (omega (arith, e))

pub returns-then-is_empty-clause-good : goal.returns-then-is_empty-clause-good
returns-then-is_empty-clause-good c = λ rels all. as_good_none rels c.args.deltas.now c.new-commits.result.items (no_length c.args.deltas.now (eqb-true (length c.args.deltas.now) 0 (sym c.is_empty.ensures ∙ c.if-is_empty.true))) c.new-commits.ensures.items

pub returns-clause-good : goal.returns-clause-good
returns-clause-good c = λ rels all.
    as_good_one rels c.args.deltas.now c.push.new.self.items c.in_ok-all.all (subst (IsSmashOf rels c.args.deltas.now) (sym c.in_ok-all.ensures) (smash_all_is rels c.args.deltas.now all))
    (c.in_ok-push.ensures.items ∙ ap (λ (l : List Delta). l ++ c.in_ok-all.all ∷ []) c.new-commits.ensures.items)
