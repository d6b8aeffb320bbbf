-- The number of the alternative that has a form.
use Rattle.std.specs.Prelude.{ℕ}
use Rattle.hera_parser_exprs.specs.declared.forms.PrimeForm.{PrimeForm}
use Rattle.hera_parser_exprs.specs.declared.forms.PrimeForm.TheVariants as forms

abbrev pub prime_number : PrimeForm → ℕ
prime_number forms.Int = 0
prime_number forms.Text = 1
prime_number forms.True = 2
prime_number forms.False = 3
prime_number forms.Fail = 4
prime_number forms.Name = 5
prime_number forms.Paren = 6
prime_number forms.Row = 7
prime_number forms.Delta = 8
prime_number forms.Rows = 9
prime_number forms.Walk = 10
prime_number forms.Project = 11
prime_number forms.Rename = 12
prime_number forms.Pair = 13
prime_number forms.Group = 14
prime_number forms.Measure = 15
prime_number forms.Fold = 16
prime_number forms.Bulk = 17
prime_number forms.Part = 18
