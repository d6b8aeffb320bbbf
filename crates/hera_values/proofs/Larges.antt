-- What a text, a relation or a delta is not.
use Rattle.std.proofs.Common.{◌≡◌, None, refl}
use Rattle.hera_code.specs.Machine.{as_bool, as_tuple}
use Rattle.hera_values.specs.declared.values.Shared.{Shared}
use Rattle.hera_values.specs.declared.values.Shared.TheVariants.{Text}
use Rattle.hera_values.specs.Little.{shared_value, flat_of, int_of}

pub no_bool : (v : Shared) → None ≡ as_bool (shared_value v)
no_bool (Text t) = refl
no_bool v = refl

pub no_tuple : (v : Shared) → None ≡ as_tuple (shared_value v)
no_tuple (Text t) = refl
no_tuple v = refl

pub no_flat : (v : Shared) → None ≡ flat_of (shared_value v)
no_flat (Text t) = refl
no_flat v = refl

pub no_int : (v : Shared) → None ≡ int_of (shared_value v)
no_int (Text t) = refl
no_int v = refl

pub ruleset larges = (no_bool, no_tuple, no_flat, no_int)
