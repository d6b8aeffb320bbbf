-- The typings of a list of phrases, and the row of a phrase with one part. Of a phrase of another form the
-- row says nothing of use.
use Rattle.std.specs.Prelude.{List, Result, Err, Vec, Bool, true, false}
use Rattle.hera_syntax.specs.declared.expr.Prime.{Prime, Rows', Walk', Project', Rename', Pair', Group', Measure', Fold', Bulk', Part'}
use Rattle.hera_rules.specs.declared.env.Typed.{Typed}
use Rattle.hera_rules.specs.declared.fault.TypeFault.{TypeFault}
use Rattle.hera_rules.specs.declared.fault.TypeFault.TheVariants.{Memory as memory}
use Rattle.hera_rules.specs.Environments.{Env}
use Rattle.hera_rules.specs.Agrees.{typings_of}
use Rattle.std.specs.declared.alloc.Global.{Global}
use Rattle.hera_rules.specs.Phrases.{Phrase, projecting, renaming, grouping, testing, folding, bulk, part}
use Rattle.hera_rules.specs.Rules.{Typing, project_row, rename_row, group_row, test_row, fold_row, bulk_row, part_row}

abbrev pub list_of : Vec Typed Global → List Typing
list_of vs = typings_of vs.items

abbrev pub one_row : Env → Phrase → Typing → Result Typing TypeFault
one_row g (projecting at p names) v = project_row at names v
one_row g (renaming at p names) v = rename_row at names v
one_row g (grouping at p by aggs) v = group_row at by aggs v
one_row g (testing test at p) v = test_row test at v
one_row g (folding fold at p w) v = fold_row fold at w v
one_row g (bulk sign w at p) v = bulk_row g sign w at v
one_row g (part sign w at p) v = part_row g sign w at v
one_row g _ v = Err memory

-- whether the expression is a keyword with one expression in its brackets, beside names
abbrev pub has_one_part : Prime → Bool
has_one_part (Project' word bracket p of names) = true
has_one_part (Rename' word bracket p of names) = true
has_one_part (Group' word bracket p of names aggs) = true
has_one_part (Measure' word bracket p of) = true
has_one_part (Fold' word bracket p of name) = true
has_one_part (Bulk' word bracket sign name p of) = true
has_one_part (Part' word bracket name p of) = true
has_one_part _ = false

-- whether it is `rows`, a walk, or a keyword with two expressions in its brackets
abbrev pub has_many_parts : Prime → Bool
has_many_parts (Rows' word bracket name brace all) = true
has_many_parts (Walk' word bracket var p of q body) = true
has_many_parts (Pair' word bracket p left q right) = true
has_many_parts _ = false
