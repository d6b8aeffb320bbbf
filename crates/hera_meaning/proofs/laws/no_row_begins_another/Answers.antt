use Rattle.std.proofs.Common.{sym, ap, ◌∙◌, ◌++◌, List, ℕ}
use Rattle.hera_meaning.proofs.RowOrder.{no_prefix}
use Rattle.hera_meaning.proofs.laws.no_row_begins_another.Goals as goal

pub returns : goal.returns
returns c = λ schema row more r m. (no_prefix schema r.0 m.0 more r.1 m.1 (ap (λ (bytes : List ℕ). bytes ++ more) r.2 ∙ sym m.2)).1
