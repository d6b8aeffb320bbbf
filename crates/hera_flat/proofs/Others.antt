-- What is given is what the operation gives, and of other operations nothing.
use Rattle.std.proofs.Common.{◌≡◌, Bool, true, false, cond, ◌&&◌, refl, Option, None}
use Rattle.hera_meaning.specs.declared.trees.TrapName.TheVariants.{Overflow}
use Rattle.hera_meaning.specs.Primitives.{refuses}
use Rattle.hera_flat.specs.declared.flat.Flat.{Flat}
use Rattle.hera_flat.specs.Flats.{flat_in}

-- a test that fails, or an answer that is none
pub none_either : (b : Bool) → cond b (flat_in (refuses Overflow)) None ≡ None
none_either true = refl
none_either false = refl

pub none_unfit : (b : Bool) (x : Option Flat) → cond (b && false) x None ≡ None
none_unfit true x = refl
none_unfit false x = refl

pub ruleset others = (none_either, none_unfit)
