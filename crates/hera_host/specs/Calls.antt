-- What a host function's closure owes.
use Rattle.std.specs.Prelude.{◌≡◌, Bool, true, nat_lt}
use Rattle.hera_meaning.specs.Scalars.{is_kind, is_scalar}
use Rattle.hera_meaning.specs.declared.hosts.HostSpec.{HostSpec}
use Rattle.hera_meaning.specs.declared.hosts.HostSpec.TheVariants.{Bucket}
use Rattle.hera_meaning.specs.declared.hosts.HostAnswer.{HostAnswer}
use Rattle.hera_meaning.specs.declared.scalars.Scalar.{Scalar}
use Rattle.hera_meaning.specs.Hosts.{host_takes, host_of}
use denote.Ref.{Bor}

-- the width of a bucket is at least 1
abbrev pub has_width : HostSpec → Bool
has_width (Bucket width) = nat_lt 0 width
has_width _ = true

-- at each scalar of the spec's kind a closure may be called, and it answers what the spec says
abbrev pub AnswersAs : (Bor Scalar → Type 0) → (Bor Scalar → HostAnswer → Type 0) → HostSpec → Type 0
AnswersAs may gives spec =
    (x : Bor Scalar) → is_kind (host_takes spec) x.now ≡ true → is_scalar x.now ≡ true → may x × ((a : HostAnswer) → gives x a → a ≡ host_of spec x.now)
