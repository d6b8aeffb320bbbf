use Rattle.std.proofs.Common.{◌≡◌, ◌++◌, drop}
use Rattle.hera_code.specs.Listing.{bodies_text, listing_of}
use Rattle.hera_code.proofs.lister.listing.Given as goal

abbrev pub invariant-loop-k : goal.invariant-loop-k
invariant-loop-k l = l.out.items ++ bodies_text l.k (drop l.k l.bodies) l.code.instrs ≡ listing_of l.code
