-- Chains: the operands behind the first, and the core of all of them.
use Rattle.std.proofs.Common.{◌≡◌, ℕ, ◌≤◌, ◌+◌, List, [], ◌∷◌, ◌++◌, refl, sym, ap, ◌∙◌, subst, arith, append-nil}
use Rattle.std.specs.Prelude.{Ok, ◌&&◌}
use Rattle.hera_meaning.specs.declared.trees.Shape.{Shape}
use Rattle.hera_meaning.specs.declared.trees.Shape.TheVariants.{Bool as bool, Delta as delta}
use Rattle.hera_meaning.specs.Forms.{form_of}
use Rattle.hera_meaning.specs.Trees.{Expr}
use Rattle.hera_meaning.specs.Sound.{IsOf, AreBools, AreDeltas, LinksAreOf, walks_in, walks_in_all, walks_in_links, walks_in_hypos}
use Rattle.hera_meaning.specs.Shapes.{Gathers, GathersAll, GathersLinks, GathersHypos}
use Rattle.hera_rules.specs.declared.words.Joint.{Joint}
use Rattle.hera_rules.specs.declared.words.Joint.TheVariants.{When as by_when, And as by_and, Or as by_or, Arithmetic, Equality, Order, Member, Deltas}
use Rattle.hera_rules.specs.declared.fault.TypeFault.TheVariants.{Mismatch as mismatch}
use Rattle.hera_rules.specs.Rules.{Typing, typing, Step, is_bool, is_delta, joint_row, links_from, hypos_from, args_from, chain_by, chain_core}
use Rattle.hera_rules.specs.Environments.{Env}
use Rattle.hera_sound.proofs.Tests.{given_true, and_true, is_bool-true, is_delta-true}
use Rattle.hera_sound.proofs.Sizes.{bound, bound_all, bound_links, bound_hypos}
use Rattle.hera_sound.proofs.Made.{IsJoint, Level, whens, ands, ors, chains, level_of}
use Rattle.hera_sound.proofs.Ops.{link_op, joint_good}
use Rattle.hera_sound.proofs.Fine.{Inside, env_in, scope, gathers_in, IsGood, Fine}

-- typed operands, all by joints of one level, behind a value of one type: they give that other type
pub data Steps {g : Env} (x : Inside g) (rs : List ℕ) (l : Level) : Shape → List Step → Shape → Type 0 where
  no_step : {t : Shape} → Steps x rs l t [] t
  one_step : {t r t' : Shape} {op : Joint} {at : ℕ} {rest : List Step} (v : Typing) →
      IsOf (scope x) rs v.core (form_of v.type) → IsJoint op → level_of op ≡ l → joint_row op at t v.type ≡ Ok r → Steps x rs l r rest t' →
      Steps x rs l t (record { joint = op; at = at; arg = v.core } ∷ rest) t'

abbrev pub walks_steps : List Step → List ℕ
walks_steps [] = []
walks_steps (i ∷ is) = walks_in i.arg ++ walks_steps is

abbrev pub bound_steps : List Step → ℕ
bound_steps [] = 0
bound_steps (i ∷ is) = 7 + bound i.arg + bound_steps is

pub steps_good : {g : Env} {x : Inside g} {rs : List ℕ} {l : Level} {t t' : Shape} {is : List Step} → Steps x rs l t is t' → IsGood t → IsGood t'
steps_good no_step g = g
steps_good (one_step {t = t} {r = r} {op = op} {at = at} v e k n j s) g = steps_good s (joint_good op at t v.type r j g)

chains_are : {g : Env} {x : Inside g} {rs : List ℕ} {t t' : Shape} {is : List Step} → Steps x rs chains t is t' → LinksAreOf (scope x) rs (links_from is) (form_of t) (form_of t')
chains_are no_step = refl
chains_are {x = x} (one_step {t = t} {r = r} {op = op} {at = at} v e k n j s) = (form_of v.type, form_of r, e, link_op (env_in x).relations op at t v.type r k n j, chains_are s)

-- what joins operands of a level
when_types : (op : Joint) (at : ℕ) (t s r : Shape) → level_of op ≡ whens → joint_row op at t s ≡ Ok r → (s ≡ delta) × (t ≡ r)
when_types by_when at t s r n j = let g = given_true (is_delta s) (mismatch at) t r j in (is_delta-true s g.0, g.1)
when_types _ at t s r n j = absurd cc

and_types : (op : Joint) (at : ℕ) (t s r : Shape) → level_of op ≡ ands → joint_row op at t s ≡ Ok r → (t ≡ bool) × (s ≡ bool) × (bool ≡ r)
and_types by_and at t s r n j =
    let g = given_true (is_bool t && is_bool s) (mismatch at) bool r j in
    let b = and_true (is_bool t) (is_bool s) g.0 in
    (is_bool-true t b.0, is_bool-true s b.1, g.1)
and_types _ at t s r n j = absurd cc

or_types : (op : Joint) (at : ℕ) (t s r : Shape) → level_of op ≡ ors → joint_row op at t s ≡ Ok r → (t ≡ bool) × (s ≡ bool) × (bool ≡ r)
or_types by_or at t s r n j =
    let g = given_true (is_bool t && is_bool s) (mismatch at) bool r j in
    let b = and_true (is_bool t) (is_bool s) g.0 in
    (is_bool-true t b.0, is_bool-true s b.1, g.1)
or_types _ at t s r n j = absurd cc

whens_are : {g : Env} {x : Inside g} {rs : List ℕ} {t t' : Shape} {is : List Step} → Steps x rs whens t is t' → AreDeltas (scope x) rs (hypos_from is) × (t ≡ t')
whens_are no_step = (tt, refl)
whens_are {x = x} {rs = rs} (one_step {t = t} {r = r} {op = op} {at = at} v e k n j s) =
    let h = when_types op at t v.type r n j in
    let d = whens_are s in
    ((subst (λ (u : Shape). IsOf (scope x) rs v.core (form_of u)) h.0 e, d.0), h.1 ∙ d.1)

-- behind a bool
pub record Bools {g : Env} (x : Inside g) (rs : List ℕ) (is : List Step) (t' : Shape) : Type 0 where
  pub args : AreBools (scope x) rs (args_from is)
  pub last : t' ≡ bool

ands_behind : {g : Env} {x : Inside g} {rs : List ℕ} {t t' : Shape} {is : List Step} → Steps x rs ands t is t' → t ≡ bool → Bools x rs is t'
ands_behind no_step b = record { args = tt; last = b }
ands_behind {x = x} {rs = rs} (one_step {t = t} {r = r} {op = op} {at = at} v e k n j s) b =
    let h = and_types op at t v.type r n j in
    let d = ands_behind s (sym h.2) in
    record { args = (subst (λ (u : Shape). IsOf (scope x) rs v.core (form_of u)) h.1 e, d.args); last = d.last }

ors_behind : {g : Env} {x : Inside g} {rs : List ℕ} {t t' : Shape} {is : List Step} → Steps x rs ors t is t' → t ≡ bool → Bools x rs is t'
ors_behind no_step b = record { args = tt; last = b }
ors_behind {x = x} {rs = rs} (one_step {t = t} {r = r} {op = op} {at = at} v e k n j s) b =
    let h = or_types op at t v.type r n j in
    let d = ors_behind s (sym h.2) in
    record { args = (subst (λ (u : Shape). IsOf (scope x) rs v.core (form_of u)) h.1 e, d.args); last = d.last }

ands_first : {g : Env} {x : Inside g} {rs : List ℕ} {t t' : Shape} {i : Step} {is : List Step} → Steps x rs ands t (i ∷ is) t' → t ≡ bool
ands_first (one_step {t = t} {r = r} {op = op} {at = at} v e k n j s) = (and_types op at t v.type r n j).0

ors_first : {g : Env} {x : Inside g} {rs : List ℕ} {t t' : Shape} {i : Step} {is : List Step} → Steps x rs ors t (i ∷ is) t' → t ≡ bool
ors_first (one_step {t = t} {r = r} {op = op} {at = at} v e k n j s) = (or_types op at t v.type r n j).0

first_level : {g : Env} {x : Inside g} {rs : List ℕ} {l : Level} {t t' : Shape} {i : Step} {is : List Step} → Steps x rs l t (i ∷ is) t' → level_of i.joint ≡ l
first_level (one_step v e k n j s) = n

steps_none : {g : Env} {x : Inside g} {rs : List ℕ} {l : Level} {t t' : Shape} → Steps x rs l t [] t' → t ≡ t'
steps_none no_step = refl

-- ---- the core of a chain

module _ {g : Env} (x : Inside g) (rs : List ℕ) where
  core_of : (l : Level) (c : Expr) (t t' : Shape) (i : Step) (is : List Step) → IsOf (scope x) rs c (form_of t) → Steps x rs l t (i ∷ is) t' → IsOf (scope x) rs (chain_by i.joint c (i ∷ is)) (form_of t')
  core_of l c t t' i is h s = by i.joint (first_level s)
    where
      levelled : (m : Level) → m ≡ l → Steps x rs m t (i ∷ is) t'
      levelled m e = subst (λ (k : Level). Steps x rs k t (i ∷ is) t') (sym e) s

      by : (j : Joint) → level_of j ≡ l → IsOf (scope x) rs (chain_by j c (i ∷ is)) (form_of t')
      by by_when e = let d = whens_are (levelled whens e) in (d.0, subst (λ (u : Shape). IsOf (scope x) rs c (form_of u)) d.1 h)
      by by_and e =
          let s' = levelled ands e in
          let b = ands_first s' in
          let d = ands_behind s' b in
          (tt, (subst (λ (u : Shape). IsOf (scope x) rs c (form_of u)) b h, d.args), ap (λ (u : Shape). form_of u) d.last)
      by by_or e =
          let s' = levelled ors e in
          let b = ors_first s' in
          let d = ors_behind s' b in
          (tt, (subst (λ (u : Shape). IsOf (scope x) rs c (form_of u)) b h, d.args), ap (λ (u : Shape). form_of u) d.last)
      by (Arithmetic op) e = (form_of t, h, chains_are (levelled chains e))
      by (Equality op) e = (form_of t, h, chains_are (levelled chains e))
      by (Order op) e = (form_of t, h, chains_are (levelled chains e))
      by Member e = (form_of t, h, chains_are (levelled chains e))
      by (Deltas op) e = (form_of t, h, chains_are (levelled chains e))

  pub chain_of : (l : Level) (c : Expr) (t t' : Shape) (is : List Step) → IsOf (scope x) rs c (form_of t) → Steps x rs l t is t' → IsOf (scope x) rs (chain_core c is) (form_of t')
  chain_of l c t t' [] h s = subst (λ (u : Shape). IsOf (scope x) rs c (form_of u)) (steps_none s) h
  chain_of l c t t' (i ∷ is) h s = core_of l c t t' i is h s

walks_links : (is : List Step) → walks_in_links (links_from is) ≡ walks_steps is
walks_links [] = refl
walks_links (i ∷ is) = ap (λ zs. walks_in i.arg ++ zs) (walks_links is)

walks_hypos : (is : List Step) → walks_in_hypos (hypos_from is) ≡ walks_steps is
walks_hypos [] = refl
walks_hypos (i ∷ is) = ap (λ zs. walks_in i.arg ++ zs) (walks_hypos is)

walks_args : (is : List Step) → walks_in_all (args_from is) ≡ walks_steps is
walks_args [] = refl
walks_args (i ∷ is) = ap (λ zs. walks_in i.arg ++ zs) (walks_args is)

pub chain_walks : (c : Expr) (is : List Step) → walks_in (chain_core c is) ≡ walks_in c ++ walks_steps is
chain_walks c [] = sym (append-nil (walks_in c))
chain_walks c (i ∷ is) = by i.joint
  where
    by : (j : Joint) → walks_in (chain_by j c (i ∷ is)) ≡ walks_in c ++ walks_steps (i ∷ is)
    by by_when = ap (λ zs. walks_in c ++ zs) (walks_hypos (i ∷ is))
    by by_and = ap (λ zs. walks_in c ++ zs) (walks_args (i ∷ is))
    by by_or = ap (λ zs. walks_in c ++ zs) (walks_args (i ∷ is))
    by _ = ap (λ zs. walks_in c ++ zs) (walks_links (i ∷ is))

small_links : (is : List Step) → bound_links (links_from is) ≤ bound_steps is
small_links [] = omega arith
small_links (i ∷ is) = let h = small_links is in omega (arith, h)

small_hypos : (is : List Step) → bound_hypos (hypos_from is) ≤ bound_steps is
small_hypos [] = omega arith
small_hypos (i ∷ is) = let h = small_hypos is in omega (arith, h)

small_args : (is : List Step) → bound_all (args_from is) ≤ bound_steps is
small_args [] = omega arith
small_args (i ∷ is) = let h = small_args is in omega (arith, h)

pub chain_small : (c : Expr) (is : List Step) → bound (chain_core c is) ≤ bound c + bound_steps is
chain_small c [] = omega arith
chain_small c (i ∷ is) = by i.joint
  where
    by : (j : Joint) → bound (chain_by j c (i ∷ is)) ≤ bound c + bound_steps (i ∷ is)
    by by_when = let h = small_hypos is in omega (arith, h)
    by by_and = let h = small_args is in omega (arith, h)
    by by_or = let h = small_args is in omega (arith, h)
    by _ = let h = small_links is in omega (arith, h)

module _ {g : Env} (x : Inside g) where
  -- the walks in the operands gather what is said of them
  abbrev pub StepsGather : List Step → Type 0
  StepsGather [] = Unit {0}
  StepsGather (i ∷ is) = Gathers (scope x) (gathers_in x) i.arg × StepsGather is

  links_gather : (is : List Step) → StepsGather is → GathersLinks (scope x) (gathers_in x) (links_from is)
  links_gather [] h = tt
  links_gather (i ∷ is) h = (h.0, links_gather is h.1)

  hypos_gather : (is : List Step) → StepsGather is → GathersHypos (scope x) (gathers_in x) (hypos_from is)
  hypos_gather [] h = tt
  hypos_gather (i ∷ is) h = (h.0, hypos_gather is h.1)

  args_gather : (is : List Step) → StepsGather is → GathersAll (scope x) (gathers_in x) (args_from is)
  args_gather [] h = tt
  args_gather (i ∷ is) h = (h.0, args_gather is h.1)

  chain_gathers : (c : Expr) (is : List Step) → Gathers (scope x) (gathers_in x) c → StepsGather is → Gathers (scope x) (gathers_in x) (chain_core c is)
  chain_gathers c [] h k = h
  chain_gathers c (i ∷ is) h k = by i.joint
    where
      by : (j : Joint) → Gathers (scope x) (gathers_in x) (chain_by j c (i ∷ is))
      by by_when = (h, hypos_gather (i ∷ is) k)
      by by_and = (h, args_gather (i ∷ is) k)
      by by_or = (h, args_gather (i ∷ is) k)
      by _ = (h, links_gather (i ∷ is) k)

pub chain_fine : {g : Env} (x : Inside g) (rs ws ws' : List ℕ) (b b' : ℕ) (l : Level) (v : Typing) (t : Shape) (is : List Step) → Fine x rs ws b v → Steps x rs l v.type is t → walks_steps is ≡ ws' → StepsGather x is → bound_steps is ≤ b' →
    Fine x rs (ws ++ ws') (b + b') (typing t (chain_core v.core is))
chain_fine x rs ws ws' b b' l v t is f s w a k =
    let p = f.small in
    let q = chain_small v.core is in
    record {
      of = chain_of x rs l v.core v.type t is f.of s;
      good = steps_good s f.good;
      walks = chain_walks v.core is ∙ ap (λ zs. zs ++ walks_steps is) f.walks ∙ ap (λ zs. ws ++ zs) w;
      gathers = chain_gathers x v.core is f.gathers a;
      small = omega (arith, p, q, k);
    }
