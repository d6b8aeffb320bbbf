-- What an operand has to be.
use Rattle.hera_meaning.specs.Fits.{Want, a_scalar, a_tuple, a_tuple_of, a_table, a_table_of, a_delta}
use Rattle.hera_fits.specs.declared.wants.Want.{Want as Want_word}
use Rattle.hera_fits.specs.declared.wants.Want.TheVariants as wants

abbrev pub want_of : Want_word → Want
want_of (wants.Scalar kind) = a_scalar kind
want_of wants.Row = a_tuple
want_of (wants.RowOf schema) = a_tuple_of schema.now
want_of wants.Rel = a_table
want_of (wants.RelOf schema) = a_table_of schema.now
want_of wants.Delta = a_delta
