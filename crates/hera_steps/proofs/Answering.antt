-- The instruction that asks a host, by what the host answers.
use Rattle.std.proofs.Common.{◌≡◌, ◌<◌, ◌≤◌, ℕ, zero, suc, true, false, cond, List, [], ◌∷◌, length, None, Some, IsSomeAnd, refl, sym, ap, ◌∙◌, arith}
use Rattle.hera_meaning.specs.declared.hosts.HostAnswer.{HostAnswer}
use Rattle.hera_meaning.specs.declared.scalars.Scalar.{Scalar}
use Rattle.hera_meaning.specs.Hosts.{host_at, host_of}
use Rattle.hera_meaning.specs.Scalars.{is_kind}
use Rattle.hera_host.specs.Tables.{Host, specs_of, takes_at}
use Rattle.hera_steps.specs.Answering.{answer_to}

-- ---- a host of a table

pub past_hosts : (t : List Host) (h : ℕ) (s : Scalar) → length t ≤ h → None ≡ answer_to (host_at (specs_of t) h) s
past_hosts [] h s l = refl
past_hosts (x ∷ t) zero s l = absurd (omega (arith, l))
past_hosts (x ∷ t) (suc h) s l = past_hosts t h s (omega (arith, l))

pub other_kind : (t : List Host) (h : ℕ) (s : Scalar) → h < length t → is_kind (takes_at t h) s ≡ false → None ≡ answer_to (host_at (specs_of t) h) s
other_kind [] h s l k = refl
other_kind (x ∷ t) zero s l k = sym (ap (λ b. cond b (Some (host_of x.spec s)) None) k)
other_kind (x ∷ t) (suc h) s l k = other_kind t h s (omega (arith, l)) k

pub own_kind : (t : List Host) (h : ℕ) (s : Scalar) (a : HostAnswer) → h < length t → is_kind (takes_at t h) s ≡ true →
    IsSomeAnd (host_at (specs_of t) h) (λ spec. a ≡ host_of spec s) → Some a ≡ answer_to (host_at (specs_of t) h) s
own_kind [] h s a l k e = absurd (omega (arith, l))
own_kind (x ∷ t) zero s a l k e = ap Some e ∙ sym (ap (λ b. cond b (Some (host_of x.spec s)) None) k)
own_kind (x ∷ t) (suc h) s a l k e = own_kind t h s a (omega (arith, l)) k e
