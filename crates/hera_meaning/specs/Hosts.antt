-- Host functions.
use Rattle.std.specs.Prelude.{ℕ, zero, suc, ◌/◌, Bool, cond, ◌&&◌, List, [], ◌∷◌, ℤ, pos, negsuc, int_le, take, length, Option, Some, None}
use Rattle.hera_sets.specs.Rows.{is_same}
use Rattle.hera_meaning.specs.declared.scalars.Kind.{Kind}
use Rattle.hera_meaning.specs.declared.scalars.Kind.TheVariants.{Int as int_kind, Bool as bool_kind, Text as text_kind}
use Rattle.hera_meaning.specs.declared.scalars.Scalar.{Scalar}
use Rattle.hera_meaning.specs.declared.scalars.Scalar.TheVariants.{Text as text_scalar}
use Rattle.hera_meaning.specs.declared.hosts.HostSpec.{HostSpec}
use Rattle.hera_meaning.specs.declared.hosts.HostSpec.TheVariants.{Band, Bucket, Prefix, Clamp}
use Rattle.hera_meaning.specs.declared.hosts.HostAnswer.{HostAnswer}
use Rattle.hera_meaning.specs.declared.hosts.HostAnswer.TheVariants.{Int as int_answer, Bool as bool_answer}
use Rattle.hera_meaning.specs.Aggregates.{int_of}
use Rattle.hera_meaning.specs.Values.{Value, int_value, bool_value}

-- the host functions by their numbers
abbrev pub Hosts : Type 0
Hosts = List HostSpec

abbrev pub text_of_scalar : Scalar → List ℕ
text_of_scalar (text_scalar t) = t
text_of_scalar _ = []

-- the greatest integer not above v / width
abbrev pub floor_by : ℕ → ℤ → ℤ
floor_by width (pos n) = pos (n / width)
floor_by width (negsuc n) = negsuc (n / width)

abbrev pub max_int : ℤ → ℤ → ℤ
max_int v w = cond (int_le v w) w v

abbrev pub min_int : ℤ → ℤ → ℤ
min_int v w = cond (int_le v w) v w

abbrev pub begins_with : List ℕ → List ℕ → Bool
begins_with front bytes = is_same (take (length front) bytes) front

-- what a host answers for its argument
abbrev pub host_of : HostSpec → Scalar → HostAnswer
host_of (Band lo hi) s = bool_answer (int_le lo (int_of s) && int_le (int_of s) hi)
host_of (Bucket width) s = int_answer (floor_by width (int_of s))
host_of (Prefix text) s = bool_answer (begins_with text (text_of_scalar s))
host_of (Clamp lo hi) s = int_answer (min_int (max_int (int_of s) lo) hi)

-- the kind of a host's argument
abbrev pub host_takes : HostSpec → Kind
host_takes (Prefix text) = text_kind
host_takes _ = int_kind

-- the kind of a host's answer
abbrev pub host_gives : HostSpec → Kind
host_gives (Band lo hi) = bool_kind
host_gives (Prefix text) = bool_kind
host_gives _ = int_kind

abbrev pub answer_value : HostAnswer → Value
answer_value (int_answer v) = int_value v
answer_value (bool_answer b) = bool_value b

abbrev pub host_at : Hosts → ℕ → Option HostSpec
host_at [] h = None
host_at (spec ∷ hosts) zero = Some spec
host_at (spec ∷ hosts) (suc h) = host_at hosts h

abbrev pub answer_by : Option HostSpec → Scalar → Value
answer_by None s = int_value (pos 0)
answer_by (Some spec) s = answer_value (host_of spec s)

-- what the host of this number answers, the int 0 where there is none
abbrev pub host_value : Hosts → ℕ → Scalar → Value
host_value hosts h s = answer_by (host_at hosts h) s
