-- The host of a place.
use Rattle.std.proofs.Common.{◌≡◌, ◌∙◌, sym, subst, ℕ, zero, suc, ◌<◌, List, [], ◌∷◌, Some, IsSomeAnd, true, length, map, get_or, ap, arith}
use Rattle.std.proofs.lemmas.List.{length-map}
use Rattle.hera_meaning.specs.Hosts.{host_takes, host_gives, host_at, host_of}
use Rattle.hera_meaning.specs.declared.hosts.HostAnswer.{HostAnswer}
use Rattle.hera_meaning.specs.declared.scalars.Scalar.{Scalar}
use Rattle.hera_meaning.specs.Scalars.{is_kind}
use Rattle.hera_host.specs.Tables.{Host, specs_of, takes_at, gives_at}

pub takes_is : (table : List Host) (i : ℕ) (h : Host) → i < length table → h ≡ get_or table i h → host_takes h.spec ≡ takes_at table i
takes_is [] i h l e = absurd (omega arith)
takes_is (x ∷ table) zero h l e = ap (λ (h : Host). host_takes h.spec) e
takes_is (x ∷ table) (suc i) h l e = takes_is table i h (omega arith) e

pub gives_is : (table : List Host) (i : ℕ) (h : Host) → i < length table → h ≡ get_or table i h → host_gives h.spec ≡ gives_at table i
gives_is [] i h l e = absurd (omega arith)
gives_is (x ∷ table) zero h l e = ap (λ (h : Host). host_gives h.spec) e
gives_is (x ∷ table) (suc i) h l e = gives_is table i h (omega arith) e

-- ---- a table of things that tell their host

module _ {F : Type 0} (told : F → Host) where
  pub is_there : (fns : List F) (table : List Host) (i : ℕ) → table ≡ map told fns → i < length table → i < length fns
  is_there fns table i e l = subst (λ n. i < n) (ap length e ∙ length-map fns told) l

  takes_by : (fns : List F) (i : ℕ) (f : F) → i < length fns → f ≡ get_or fns i f → takes_at (map told fns) i ≡ host_takes (told f).spec
  takes_by [] i f l e = absurd (omega arith)
  takes_by (x ∷ fns) zero f l e = ap (λ g. host_takes (told g).spec) (sym e)
  takes_by (x ∷ fns) (suc i) f l e = takes_by fns i f (omega arith) e

  spec_by : (fns : List F) (i : ℕ) (f : F) → i < length fns → f ≡ get_or fns i f → Some (told f).spec ≡ host_at (specs_of (map told fns)) i
  spec_by [] i f l e = absurd (omega arith)
  spec_by (x ∷ fns) zero f l e = ap (λ g. Some (told g).spec) e
  spec_by (x ∷ fns) (suc i) f l e = spec_by fns i f (omega arith) e

  -- an argument of the kind that the table tells is of the kind that the host takes
  pub fits : (fns : List F) (table : List Host) (i : ℕ) (f : F) (s : Scalar) → table ≡ map told fns → i < length table → f ≡ get_or fns i f →
      is_kind (takes_at table i) s ≡ true → is_kind (host_takes (told f).spec) s ≡ true
  fits fns table i f s t l e k =
      subst (λ x. is_kind x s ≡ true) (ap (λ x. takes_at x i) t ∙ takes_by fns i f (is_there fns table i t l) e) k

  -- what the host answers is what the table tells
  pub answered : (fns : List F) (table : List Host) (i : ℕ) (f : F) (s : Scalar) (a : HostAnswer) → table ≡ map told fns → i < length table → f ≡ get_or fns i f →
      a ≡ host_of (told f).spec s → IsSomeAnd (host_at (specs_of table) i) (λ spec. a ≡ host_of spec s)
  answered fns table i f s a t l e h =
      subst (λ o. IsSomeAnd o (λ spec. a ≡ host_of spec s)) (spec_by fns i f (is_there fns table i t l) e ∙ ap (λ x. host_at (specs_of x) i) (sym t)) h
