-- Where the bodies of a program stand in its code, and in which of them an address lies.
use Rattle.std.proofs.Common.{◌≡◌, ℕ, zero, suc, ◌+◌, ◌<◌, ◌≤◌, Bool, true, false, cond, List, [], ◌∷◌, length, drop, Option, Some, None, refl, sym, ap, ◌∙◌, subst, arith, length-append}
use Rattle.std.specs.Prelude.{slice_get, nat_le}
use Rattle.std.proofs.lemmas.Bool.{leb-true, leb-false, le-leb, lt-leb}
use Rattle.hera_meaning.specs.Trees.{Body_tree}
use Rattle.hera_meaning.specs.Addresses.{block_end, body_end}
use Rattle.hera_code.specs.declared.instrs.BodyInfo.{BodyInfo}
use Rattle.hera_code.specs.declared.instrs.Code.{Code}
use Rattle.hera_code.specs.declared.instrs.Instr.{Instr}
use Rattle.hera_code.specs.Scheme.{in_main, role_of, body_code, bodies_code, info_of, infos_of, code_from}
use Rattle.hera_code.specs.Listing.{next_start, StartsFrom}
use Rattle.hera_code.proofs.Starts.{next_start_at, next_start_past}
use Rattle.hera_codegen.specs.Roles.{body_role}
use Rattle.hera_codegen.proofs.Places.{HasAt, has_front, all_behind}
use Rattle.hera_codegen.proofs.Bodies.{behind, body_length, ends_behind}
use Rattle.hera_codegen.proofs.Depth.{has_self}
use Rattle.hera_typed.specs.Effects.{begun}
use Rattle.hera_typed.proofs.Asking.{some_is, none_is}
use Rattle.hera_noted.specs.Spans.{end_by, end_of}

-- ---- where each body stands

pub record Stretch (code : Code) (k : ℕ) (b : Body_tree) : Type 0 where
  pub at : ℕ
  pub info_is : slice_get code.bodies k ≡ Some (info_of b at)
  pub has : HasAt code.instrs at (body_code (body_role k b.func) b.block at)
  pub end_is : next_start (drop (suc k) code.bodies) (length code.instrs) ≡ behind (body_role k b.func) b.block at

abbrev Found : List Instr → ℕ → List Body_tree → ℕ → ℕ → Body_tree → Type 0
Found code end bs a k b =
    (at : ℕ) × (slice_get (infos_of bs a) k ≡ Some (info_of b at)) × HasAt code at (body_code (role_of b.func) b.block at) × (next_start (drop (suc k) (infos_of bs a)) end ≡ behind (role_of b.func) b.block at)

-- behind the first of these bodies
next_is : (c : Body_tree) (bs : List Body_tree) (a m end : ℕ) → m + length (bodies_code bs m) ≡ end → next_start (infos_of bs m) end ≡ m
next_is c [] a m end long = omega (arith, long)
next_is c (d ∷ bs) a m end long = refl

find : (code : List Instr) (end : ℕ) (bs : List Body_tree) (k : ℕ) (b : Body_tree) (a : ℕ) → slice_get bs k ≡ Some b → HasAt code a (bodies_code bs a) → a + length (bodies_code bs a) ≡ end → Found code end bs a k b
find code end [] k b a e has long = none_is _ b e
find code end (c ∷ bs) k b a e has long = by k e (λ k e. find code end bs k b m e rest more)
  where
    m : ℕ
    m = body_end c.func c.block a

    own : List Instr
    own = body_code (role_of c.func) c.block a

    own_long : a + length own ≡ m
    own_long = body_length (role_of c.func) c.block a ∙ sym (ends_behind c.func c.block a)

    rest : HasAt code m (bodies_code bs m)
    rest = all_behind code a own (bodies_code bs m) m own_long has

    more : m + length (bodies_code bs m) ≡ end
    more = omega (arith, long, own_long, length-append own (bodies_code bs m))

    by : (k : ℕ) → slice_get (c ∷ bs) k ≡ Some b → ((k : ℕ) → slice_get bs k ≡ Some b → Found code end bs m k b) → Found code end (c ∷ bs) a k b
    by zero e ih = subst (λ b. Found code end (c ∷ bs) a 0 b) (some_is c b e) (a, refl, has_front code a own (bodies_code bs m) has, next_is c bs a m end more ∙ ends_behind c.func c.block a)
    by (suc k) e ih = ih k e

pub stretch : (bodies : List Body_tree) (k : ℕ) (b : Body_tree) → slice_get bodies k ≡ Some b → Stretch (code_from bodies) k b
stretch [] k b e = none_is _ b e
stretch (c ∷ bs) k b e = by k e
  where
    m : ℕ
    m = block_end c.block 0 + 1

    own : List Instr
    own = body_code in_main c.block 0

    code : Code
    code = code_from (c ∷ bs)

    own_long : 0 + length own ≡ m
    own_long = body_length in_main c.block 0

    more : m + length (bodies_code bs m) ≡ length code.instrs
    more = omega (arith, own_long, length-append own (bodies_code bs m))

    by : (k : ℕ) → slice_get (c ∷ bs) k ≡ Some b → Stretch code k b
    by zero e = subst (λ b. Stretch code 0 b) (some_is c b e) (record { at = 0; info_is = refl; has = has_front code.instrs 0 own (bodies_code bs m) (has_self code.instrs); end_is = next_is c bs 0 m (length code.instrs) more })
    by (suc k) e =
        let q = find code.instrs (length code.instrs) bs k b m e (all_behind code.instrs 0 own (bodies_code bs m) m own_long (has_self code.instrs)) more in
        record { at = q.0; info_is = q.1; has = q.2; end_is = q.3 }

infos_many : (bs : List Body_tree) (a : ℕ) → length (infos_of bs a) ≡ length bs
infos_many [] a = refl
infos_many (b ∷ bs) a = ap suc (infos_many bs (body_end b.func b.block a))

pub bodies_many : (bodies : List Body_tree) → length (code_from bodies).bodies ≡ length bodies
bodies_many [] = refl
bodies_many (b ∷ bs) = ap suc (infos_many bs (block_end b.block 0 + 1))

-- ---- starts in order

pub starts_low : (lo : ℕ) (bs : List BodyInfo) (end k : ℕ) (c : BodyInfo) → StartsFrom lo bs end → slice_get bs k ≡ Some c → lo ≤ c.at
starts_low lo [] end k c s e = none_is _ c e
starts_low lo (b ∷ bs) end zero c s e = let same : b.at ≡ c.at = ap (λ (b : BodyInfo). b.at) (some_is b c e) in let low = s.0 in omega (arith, same, low)
starts_low lo (b ∷ bs) end (suc k) c s e = let low = s.0 in omega (arith, low, starts_low (suc b.at) bs end k c s.2 e)

pub start_in : (lo : ℕ) (bs : List BodyInfo) (end k : ℕ) (c : BodyInfo) → StartsFrom lo bs end → slice_get bs k ≡ Some c → c.at < end
start_in lo [] end k c s e = none_is _ c e
start_in lo (b ∷ bs) end zero c s e = subst (λ (c : BodyInfo). c.at < end) (some_is b c e) s.1
start_in lo (b ∷ bs) end (suc k) c s e = start_in (suc b.at) bs end k c s.2 e

pub starts_rise : (lo : ℕ) (bs : List BodyInfo) (end k : ℕ) (b c : BodyInfo) → StartsFrom lo bs end → slice_get bs k ≡ Some b → slice_get bs (suc k) ≡ Some c → b.at < c.at
starts_rise lo [] end k b c s e f = none_is _ b e
starts_rise lo (d ∷ bs) end zero b c s e f = let same : d.at ≡ b.at = ap (λ (b : BodyInfo). b.at) (some_is d b e) in omega (arith, same, starts_low (suc d.at) bs end 0 c s.2 f)
starts_rise lo (d ∷ bs) end (suc k) b c s e f = starts_rise (suc d.at) bs end k b c s.2 e f

first_low : (lo : ℕ) (bs : List BodyInfo) (end k : ℕ) (c : BodyInfo) → StartsFrom lo bs end → slice_get bs k ≡ Some c → next_start bs end ≤ c.at
first_low lo [] end k c s e = none_is _ c e
first_low lo (d ∷ bs) end zero c s e = let same : d.at ≡ c.at = ap (λ (b : BodyInfo). b.at) (some_is d c e) in omega (arith, same)
first_low lo (d ∷ bs) end (suc k) c s e = omega (arith, starts_low (suc d.at) bs end k c s.2 e)

-- a body ends before a later one begins
pub ends_before : (lo : ℕ) (bs : List BodyInfo) (end j k : ℕ) (c : BodyInfo) → StartsFrom lo bs end → j < k → slice_get bs k ≡ Some c → next_start (drop (suc j) bs) end ≤ c.at
ends_before lo [] end j k c s lt e = none_is _ c e
ends_before lo (b ∷ bs) end j zero c s lt e = absurd (omega (arith, lt))
ends_before lo (b ∷ bs) end zero (suc k) c s lt e = first_low (suc b.at) bs end k c s.2 e
ends_before lo (b ∷ bs) end (suc j) (suc k) c s lt e = ends_before (suc b.at) bs end j k c s.2 (omega (arith, lt)) e

-- ---- the body of an address

pub home_in : (c : BodyInfo) (bs : List BodyInfo) (end a : ℕ) → c.at ≤ a → a < end →
    (b : BodyInfo) × (slice_get (c ∷ bs) (begun bs a) ≡ Some b) × (b.at ≤ a) × (a < next_start (drop (suc (begun bs a)) (c ∷ bs)) end)
home_in c [] end a le lt = (c, refl, le, lt)
home_in c (d ∷ bs) end a le lt = by (nat_le d.at a) refl (λ q. home_in d bs end a q lt)
  where
    by : (t : Bool) → nat_le d.at a ≡ t → (d.at ≤ a → (b : BodyInfo) × (slice_get (d ∷ bs) (begun bs a) ≡ Some b) × (b.at ≤ a) × (a < next_start (drop (suc (begun bs a)) (d ∷ bs)) end)) →
        (b : BodyInfo) × (slice_get (c ∷ d ∷ bs) (cond t (suc (begun bs a)) 0) ≡ Some b) × (b.at ≤ a) × (a < next_start (drop (suc (cond t (suc (begun bs a)) 0)) (c ∷ d ∷ bs)) end)
    by true e ih = ih (leb-true d.at a e)
    by false e ih = (c, refl, le, leb-false d.at a e)

pub home_of : (lo : ℕ) (c : BodyInfo) (bs : List BodyInfo) (end k : ℕ) (b : BodyInfo) (a : ℕ) → StartsFrom lo (c ∷ bs) end → slice_get (c ∷ bs) k ≡ Some b → b.at ≤ a → a < next_start (drop (suc k) (c ∷ bs)) end → begun bs a ≡ k
home_of lo c [] end zero b a s e le lt = refl
home_of lo c [] end (suc k) b a s e le lt = none_is _ b e
home_of lo c (d ∷ bs) end zero b a s e le lt = ap (λ t. cond t (suc (begun bs a)) 0) (lt-leb d.at a lt)
home_of lo c (d ∷ bs) end (suc k) b a s e le lt =
    let low : d.at ≤ a = omega (arith, first_low (suc c.at) (d ∷ bs) end k b s.2 e, le) in
    ap (λ t. cond t (suc (begun bs a)) 0) (le-leb d.at a low) ∙ ap suc (home_of (suc c.at) d bs end k b a s.2 e le lt)

-- ---- the end of a body, as the notes have it

pub end_is_next : (code : Code) (k : ℕ) → StartsFrom 0 code.bodies (length code.instrs) → end_of code k ≡ next_start (drop (suc k) code.bodies) (length code.instrs)
end_is_next code k s = by (slice_get code.bodies (k + 1)) refl
  where
    next : k + 1 ≡ suc k
    next = omega arith

    by : (o : Option BodyInfo) → slice_get code.bodies (k + 1) ≡ o → end_by o (length code.instrs) ≡ next_start (drop (suc k) code.bodies) (length code.instrs)
    by None e = sym (next_start_past code.bodies (suc k) (length code.instrs) (sym (ap (slice_get code.bodies) next) ∙ e))
    by (Some c) e =
        let here = sym (ap (slice_get code.bodies) next) ∙ e in
        let lt : c.at < length code.instrs = start_in 0 code.bodies (length code.instrs) (suc k) c s here in
        let le : c.at ≤ length code.instrs = omega (arith, lt) in
        ap (λ t. cond t c.at (length code.instrs)) (le-leb c.at (length code.instrs) le) ∙ sym (next_start_at code.bodies (suc k) (length code.instrs) c here)
