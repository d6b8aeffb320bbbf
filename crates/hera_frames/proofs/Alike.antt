-- Lists of rows that pass alike fit an operation alike.
use Rattle.std.proofs.Common.{◌≡◌, ◌&&◌, true, List, refl, ap}
use Rattle.hera_sets.specs.Rows.{Row}
use Rattle.hera_meaning.specs.declared.trees.Op.{Op}
use Rattle.hera_meaning.specs.declared.trees.Op.TheVariants.{Project, Join, Group, Sum, Min, Max}
use Rattle.hera_meaning.specs.Fits.{fits_of, is_good_op}
use Rattle.hera_fits.specs.Tables.{is_relational, tables}
use Rattle.hera_frames.specs.Kinds.{left_of, right_of, PassAlike}

pub fit_alike : (op : Op) (few rows few_right right : List Row) → PassAlike (left_of op) few rows → PassAlike (right_of op) few_right right → (is_relational op && fits_of op (tables op few few_right)) ≡ (is_relational op && fits_of op (tables op rows right))
fit_alike (Project schema places) few rows few_right right h g = ap (λ b. is_good_op (Project schema places) && (b && true)) h
fit_alike (Join first second) few rows few_right right h g = λ i. is_good_op (Join first second) && (h i && (g i && true))
fit_alike (Group schema by aggs) few rows few_right right h g = ap (λ b. is_good_op (Group schema by aggs) && (b && true)) h
fit_alike (Sum schema i) few rows few_right right h g = ap (λ b. is_good_op (Sum schema i) && (b && true)) h
fit_alike (Min schema i) few rows few_right right h g = ap (λ b. is_good_op (Min schema i) && (b && true)) h
fit_alike (Max schema i) few rows few_right right h g = ap (λ b. is_good_op (Max schema i) && (b && true)) h
fit_alike op few rows few_right right h g = refl
