use Rattle.std.proofs.Common.{rules}
use Rattle.hera_transfer.specs.Transfers.{imported_text}
use Rattle.hera_transfer.proofs.adding.imported_line.Goals as goal

pub returns : goal.returns
unfolding imported_text
returns c = search rules
