use Rattle.std.proofs.Common.{◌≡◌, true, false, refl, sym, ◌∙◌, map, arith}
use Rattle.std.proofs.lemmas.Bool.{both_ways}
use Rattle.hera_sets.specs.Rows.{holds}
use Rattle.hera_meaning.specs.Catalogues.{decl_name}
use Rattle.hera_row.proofs.EntryLemmas.{held-found}
use Rattle.hera_row.proofs.catalogue.Catalogue.add.Goals as goal

pub returns-then-is_some-clause-taken : goal.returns-then-is_some-clause-taken
returns-then-is_some-clause-taken c =
    let held : holds (map decl_name c.args.self.now) c.args.name ≡ true =
    held-found c.find.result c.args.name c.bytes.result.now c.args.self.now c.bytes.ensures.bytes c.find.ensures.number ∙ sym c.is_some.ensures ∙ c.if-is_some.true in
    (λ _. held, λ _. refl)

pub returns-then-is_some-clause-full : goal.returns-then-is_some-clause-full
returns-then-is_some-clause-full c =
    let held : holds (map decl_name c.args.self.now) c.args.name ≡ true =
    held-found c.find.result c.args.name c.bytes.result.now c.args.self.now c.bytes.ensures.bytes c.find.ensures.number ∙ sym c.is_some.ensures ∙ c.if-is_some.true in
    (λ e. (cc, cc), λ p. absurd (both_ways _ p.0 held))

pub returns-then-number-ge-RELATIONS_LIMIT-clause-taken : goal.returns-then-number-ge-RELATIONS_LIMIT-clause-taken
returns-then-number-ge-RELATIONS_LIMIT-clause-taken c =
    let held : holds (map decl_name c.args.self.now) c.args.name ≡ false =
    held-found c.find.result c.args.name c.bytes.result.now c.args.self.now c.bytes.ensures.bytes c.find.ensures.number ∙ sym c.is_some.ensures ∙ c.if-is_some.false in
    (λ e. cc, λ p. absurd (both_ways _ held p))

pub returns-then-number-ge-RELATIONS_LIMIT-clause-full : goal.returns-then-number-ge-RELATIONS_LIMIT-clause-full
returns-then-number-ge-RELATIONS_LIMIT-clause-full c =
    let held : holds (map decl_name c.args.self.now) c.args.name ≡ false =
    held-found c.find.result c.args.name c.bytes.result.now c.args.self.now c.bytes.ensures.bytes c.find.ensures.number ∙ sym c.is_some.ensures ∙ c.if-is_some.false in
    (λ _. (held, omega (arith, c.if-number-ge-RELATIONS_LIMIT.true, c.len-number.ensures.count, c.len-number.ensures.valid.few)), λ _. refl)

pub put-requires-clause-new : goal.put-requires-clause-new
put-requires-clause-new c =
    held-found c.find.result c.args.name c.bytes.result.now c.args.self.now c.bytes.ensures.bytes c.find.ensures.number ∙ sym c.is_some.ensures ∙ c.if-is_some.false

pub returns-in-Ok-clause-taken : goal.returns-in-Ok-clause-taken
returns-in-Ok-clause-taken c =
    let held : holds (map decl_name c.args.self.now) c.args.name ≡ false =
    held-found c.find.result c.args.name c.bytes.result.now c.args.self.now c.bytes.ensures.bytes c.find.ensures.number ∙ sym c.is_some.ensures ∙ c.if-is_some.false in
    (λ e. cc, λ p. absurd (both_ways _ held p))

pub returns-in-Err-clause-taken : goal.returns-in-Err-clause-taken
returns-in-Err-clause-taken c =
    let held : holds (map decl_name c.args.self.now) c.args.name ≡ false =
    held-found c.find.result c.args.name c.bytes.result.now c.args.self.now c.bytes.ensures.bytes c.find.ensures.number ∙ sym c.is_some.ensures ∙ c.if-is_some.false in
    (λ e. cc, λ p. absurd (both_ways _ held p))
