-- What a host function answers for an operand.
use Rattle.std.specs.Prelude.{cond, Option, None, Some}
use Rattle.hera_meaning.specs.declared.hosts.HostSpec.{HostSpec}
use Rattle.hera_meaning.specs.declared.hosts.HostAnswer.{HostAnswer}
use Rattle.hera_meaning.specs.declared.scalars.Scalar.{Scalar}
use Rattle.hera_meaning.specs.Hosts.{host_of, host_takes}
use Rattle.hera_meaning.specs.Scalars.{is_kind}
use Rattle.hera_meaning.specs.Values.{Value, scalar, tuple, table, delta}

-- nothing where there is no host, and for a scalar of another kind than it takes
abbrev pub answer_to : Option HostSpec → Scalar → Option HostAnswer
answer_to None s = None
answer_to (Some spec) s = cond (is_kind (host_takes spec) s) (Some (host_of spec s)) None

-- and for what is no scalar
abbrev pub answer_for : Option HostSpec → Value → Option HostAnswer
answer_for o (scalar s) = answer_to o s
answer_for o (tuple r) = None
answer_for o (table rows) = None
answer_for o (delta d) = None
