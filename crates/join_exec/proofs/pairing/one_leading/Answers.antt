use Rattle.std.proofs.Common.{◌≡◌, ℕ, Option, None, Some, IfSome, refl}
use Rattle.std.specs.List.{slice_get}
use Rattle.hera_sets.specs.Rows.{Row}
use Rattle.hera_meaning.specs.Rows.{pieces}
use Rattle.hera_meaning.specs.Relations.{piece_at}
use Rattle.join_exec.specs.Leading.{leading_of}
use Rattle.join_exec.proofs.PairLemmas.{leading_alone}
use Rattle.join_exec.proofs.pairing.one_leading.Goals as goal

pub returns : goal.returns
returns c = λ row. by row c.place_at.result c.place_at.ensures
  where
    by : (row : Row) (o : Option ℕ) → slice_get c.args.places.now 0 ≡ Some o → IfSome o (λ place. piece_at (pieces c.args.left.now row) place ≡ leading_of c.args.left.now row c.args.right.now)
    by row None h = tt
    by row (Some n) h = leading_alone c.args.left.now c.args.right.now c.args.places.now row n c.requires.places h (c.if-not-one_leads.ensures row refl)
