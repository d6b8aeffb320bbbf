-- The addresses of bodies.
use Rattle.std.proofs.Common.{◌≡◌, ◌<◌, ◌≤◌, inl, inr, ℕ, zero, suc, ◌+◌, Bool, true, false, cond, drop, List, [], ◌∷◌, length, Option, None, Some, refl, sym, ap, subst, ◌∙◌, arith}
use Rattle.std.specs.Prelude.{slice_get, nat_lt, nat_le}
use Rattle.std.specs.Option.{option_map}
use Rattle.std.proofs.lemmas.Bool.{cases_lt, ltb-true, ltb-false, leb-true, leb-false}
use Rattle.std.proofs.lemmas.Option.{none-some, same_Some}
use Rattle.hera_code.specs.declared.instrs.BodyInfo.{BodyInfo}
use Rattle.hera_code.specs.declared.instrs.Code.{Code}
use Rattle.hera_typed.specs.Effects.{begun, home}
use Rattle.hera_verify.specs.declared.reaches.Reach.{Reach}
use Rattle.hera_verify.specs.Slots.{greater, start_at, Below, HaveBegun, IsReach}

-- ---- how many have begun

abbrev FirstBegun : List BodyInfo → ℕ → ℕ → Type 0
FirstBegun bs k a = (j : ℕ) (b : BodyInfo) → j < k → slice_get bs j ≡ Some b → b.at ≤ a

one_begun : (b : BodyInfo) (bs : List BodyInfo) (k a : ℕ) → b.at ≤ a → FirstBegun bs k a → FirstBegun (b ∷ bs) (suc k) a
one_begun b bs k a le h zero c lt get = subst (λ (x : BodyInfo). x.at ≤ a) (same_Some b c get) le
one_begun b bs k a le h (suc j) c lt get = h j c (omega (arith, lt)) get

begun_to : (bs : List BodyInfo) (k a : ℕ) → begun bs a ≡ k → FirstBegun bs k a × Below (start_at bs k) a
begun_to [] zero a e = (λ j b lt get. absurd (omega (arith, lt)), tt)
begun_to [] (suc k) a e = absurd (omega (arith, e))
begun_to (b ∷ bs) k a e = by (nat_le b.at a) refl (λ k e. begun_to bs k a e) k e
  where
    by : (v : Bool) → nat_le b.at a ≡ v → ((k : ℕ) → begun bs a ≡ k → FirstBegun bs k a × Below (start_at bs k) a) → (k : ℕ) → cond v (suc (begun bs a)) 0 ≡ k → FirstBegun (b ∷ bs) k a × Below (start_at (b ∷ bs) k) a
    by true v go zero e = absurd (omega (arith, e))
    by true v go (suc k) e =
        let more = go k (omega (arith, e)) in
        (one_begun b bs k a (leb-true b.at a v) more.0, more.1)
    by false v go zero e = (λ j c lt get. absurd (omega (arith, lt)), leb-false b.at a v)
    by false v go (suc k) e = absurd (omega (arith, e))

begun_from : (bs : List BodyInfo) (k a : ℕ) → k ≤ length bs → FirstBegun bs k a → Below (start_at bs k) a → begun bs a ≡ k
begun_from [] zero a le first below = refl
begun_from [] (suc k) a le first below = absurd (omega (arith, le))
begun_from (b ∷ bs) k a le first below = by (nat_le b.at a) refl (λ k le first below. begun_from bs k a le first below) k le first below
  where
    by : (v : Bool) → nat_le b.at a ≡ v → ((k : ℕ) → k ≤ length bs → FirstBegun bs k a → Below (start_at bs k) a → begun bs a ≡ k) → (k : ℕ) → k ≤ length (b ∷ bs) → FirstBegun (b ∷ bs) k a → Below (start_at (b ∷ bs) k) a → cond v (suc (begun bs a)) 0 ≡ k
    by true v go zero le first below = let old : b.at ≤ a = leb-true b.at a v in absurd (omega (arith, old, below))
    by true v go (suc k) le first below = ap suc (go k (omega (arith, le)) (λ j c lt get. first (suc j) c (omega (arith, lt)) get) below)
    by false v go zero le first below = refl
    by false v go (suc k) le first below = let young : a < b.at = leb-false b.at a v in let old = first 0 b (omega arith) refl in absurd (omega (arith, young, old))

-- ---- of code

module _ (code : Code) where
  abbrev Past : List BodyInfo → ℕ → ℕ → Type 0
  Past bodies k a = (j : ℕ) (b : BodyInfo) → 0 < j → j ≤ k → slice_get bodies j ≡ Some b → b.at ≤ a

  home_to_in : (bodies : List BodyInfo) (k a : ℕ) → begun (drop 1 bodies) a ≡ k → Past bodies k a × Below (start_at bodies (k + 1)) a
  home_to_in [] k a e = (λ j b some le get. absurd (none-some b get), tt)
  home_to_in (m ∷ bs) k a e = let h = begun_to bs k a e in (first h.0, subst (λ n. Below (start_at (m ∷ bs) n) a) next h.1)
    where
      next : suc k ≡ k + 1
      next = omega arith

      first : FirstBegun bs k a → Past (m ∷ bs) k a
      first h zero b some le get = absurd (omega (arith, some))
      first h (suc j) b some le get = h j b (omega (arith, le)) get

  home_from_in : (bodies : List BodyInfo) (k a : ℕ) → k < length bodies → Past bodies k a → Below (start_at bodies (k + 1)) a → begun (drop 1 bodies) a ≡ k
  home_from_in [] k a lt first below = absurd (omega (arith, lt))
  home_from_in (m ∷ bs) k a lt first below = begun_from bs k a (omega (arith, lt)) (λ j b less get. first (suc j) b (omega arith) (omega (arith, less)) get) (subst (λ n. Below (start_at (m ∷ bs) n) a) next below)
    where
      next : k + 1 ≡ suc k
      next = omega arith

  -- an address lies in body k where it has begun and the next has not
  pub reached : (k a : ℕ) (r : Reach) → k < length code.bodies → IsReach code k r → r.from ≤ a → Below r.to a → home code a ≡ k
  reached k a r lt h le below = home_from_in code.bodies k a lt ((h.from a).0 le) (subst (λ o. Below o a) h.to below)

  pub is_reached : (k a : ℕ) (r : Reach) → IsReach code k r → home code a ≡ k → (r.from ≤ a) × Below r.to a
  is_reached k a r h e = let both = home_to_in code.bodies k a e in ((h.from a).1 both.0, subst (λ o. Below o a) (sym h.to) both.1)

  pub main_reach : (r : Reach) → r.from ≡ 0 → r.to ≡ start_at code.bodies 1 → IsReach code 0 r
  main_reach r low next = record { from = λ a. (λ le j b some small get. absurd (omega (arith, some, small)), λ h. omega (arith, low)); to = next }

  -- the next body
  pub next_reach : (k t : ℕ) (r s : Reach) → IsReach code k r → r.to ≡ Some t → s.from ≡ greater r.from t → s.to ≡ start_at code.bodies (k + 2) → IsReach code (k + 1) s
  next_reach k t r s h to from next = record { from = λ a. (λ le. later a le, λ all. earlier a all); to = next ∙ ap (start_at code.bodies) (omega arith) }
    where
      over : (a : ℕ) → greater r.from t ≤ a → (r.from ≤ a) × (t ≤ a)
      over a le = by (nat_lt r.from t) refl le
        where
          by : (v : Bool) → nat_lt r.from t ≡ v → cond v t r.from ≤ a → (r.from ≤ a) × (t ≤ a)
          by true v le = let lt : r.from < t = ltb-true r.from t v in (omega (arith, lt, le), le)
          by false v le = let ge : t ≤ r.from = ltb-false r.from t v in (le, omega (arith, ge, le))

      under : (a : ℕ) → r.from ≤ a → t ≤ a → greater r.from t ≤ a
      under a low high = by (nat_lt r.from t)
        where
          by : (v : Bool) → cond v t r.from ≤ a
          by true = high
          by false = low

      starts : start_at code.bodies (k + 1) ≡ Some t
      starts = sym h.to ∙ to

      its : (o : Option BodyInfo) (b : BodyInfo) → o ≡ Some b → option_map (λ (x : BodyInfo). x.at) o ≡ Some t → t ≡ b.at
      its None b e g = absurd (none-some b e)
      its (Some c) b e g = sym (same_Some c.at t g) ∙ ap (λ (x : BodyInfo). x.at) (same_Some c b e)

      of_next : (j a : ℕ) (b : BodyInfo) → j ≡ k + 1 → slice_get code.bodies j ≡ Some b → t ≤ a → b.at ≤ a
      of_next j a b same get le = subst (λ n. n ≤ a) (its (slice_get code.bodies (k + 1)) b (ap (slice_get code.bodies) (sym same) ∙ get) starts) le

      later : (a : ℕ) → s.from ≤ a → HaveBegun code (k + 1) a
      later a le j b some small get =
          let both = over a (subst (λ n. n ≤ a) from le) in
          elim (cases_lt k j) [
            | inl above ↦ of_next j a b (omega (arith, above, small)) get both.1
            | inr le ↦ (h.from a).0 both.0 j b some le get
          ]

      found : (o : Option BodyInfo) → option_map (λ (x : BodyInfo). x.at) o ≡ Some t → (b : BodyInfo) × (o ≡ Some b) × (b.at ≡ t)
      found None g = absurd (none-some t g)
      found (Some c) g = (c, refl, same_Some c.at t g)

      earlier : (a : ℕ) → HaveBegun code (k + 1) a → s.from ≤ a
      earlier a all =
          let f = found (slice_get code.bodies (k + 1)) starts in
          let high : t ≤ a = subst (λ n. n ≤ a) f.2 (all (k + 1) f.0 (omega arith) (omega arith) f.1) in
          let low : r.from ≤ a = (h.from a).1 (λ j b some le get. all j b some (omega (arith, le)) get) in
          subst (λ n. n ≤ a) (sym from) (under a low high)

  -- there is a next body
  pub next_there : (k : ℕ) (r : Reach) → k + 1 < length code.bodies → IsReach code k r → r.to ≡ None → ⊥
  next_there k r lt h none = past (slice_get code.bodies (k + 1)) (got code.bodies (k + 1) lt) (sym h.to ∙ none)
    where
      got : (bodies : List BodyInfo) (i : ℕ) → i < length bodies → (b : BodyInfo) × (slice_get bodies i ≡ Some b)
      got [] i lt = absurd (omega (arith, lt))
      got (b ∷ bodies) zero lt = (b, refl)
      got (b ∷ bodies) (suc i) lt = got bodies i (omega (arith, lt))

      past : (o : Option BodyInfo) → (b : BodyInfo) × (o ≡ Some b) → option_map (λ (x : BodyInfo). x.at) o ≡ None → ⊥
      past None there e = none-some there.0 there.1
      past (Some b) there e = none-some b.at (sym e)

start_there : (bodies : List BodyInfo) (i t : ℕ) → start_at bodies i ≡ Some t → (i < length bodies) × ((b : BodyInfo) → slice_get bodies i ≡ Some b → b.at ≡ t)
start_there [] i t e = absurd (none-some t e)
start_there (x ∷ bodies) zero t e = (omega arith, λ b h. ap (λ (y : BodyInfo). y.at) (sym (same_Some x b h)) ∙ same_Some x.at t e)
start_there (x ∷ bodies) (suc i) t e = let more = start_there bodies i t e in let lt = more.0 in (omega (arith, lt), more.1)

-- where an address lies in another body, the next one is there and has begun
module _ (code : Code) (k a : ℕ) (r : Reach) (lt : k < length code.bodies) (is : IsReach code k r) (begun : r.from ≤ a) (other : home code a ≡ k → ⊥) where
  next_start : (t : ℕ) × (start_at code.bodies (k + 1) ≡ Some t) × (t ≤ a)
  next_start = by r.to refl
    where
      by : (o : Option ℕ) → r.to ≡ o → (t : ℕ) × (start_at code.bodies (k + 1) ≡ Some t) × (t ≤ a)
      by None e = absurd (other (reached code k a r lt is begun (subst (λ x. Below x a) (sym e) tt)))
      by (Some t) e = (
        t,
        sym is.to ∙ e,
        elim (cases_lt a t) [
          | inl less ↦ absurd (other (reached code k a r lt is begun (subst (λ x. Below x a) (sym e) less)))
          | inr le ↦ le
        ],
      )

  pub next_body : k + 1 < length code.bodies
  next_body = (start_there code.bodies (k + 1) next_start.0 next_start.1).0

  pub next_begun : (s : Reach) → IsReach code (k + 1) s → s.from ≤ a
  next_begun s own = (own.from a).1 (λ j b some le here. elim (cases_lt j (k + 1)) [
    | inl less ↦ (is.from a).0 begun j b some (omega (arith, less)) here
    | inr ge ↦
        let same : j ≡ k + 1 = omega (arith, ge, le) in
        let at = (start_there code.bodies (k + 1) next_start.0 next_start.1).1 b (sym (ap (slice_get code.bodies) same) ∙ here) in
        let t = next_start.2 in
        omega (arith, at, t)
  ])
