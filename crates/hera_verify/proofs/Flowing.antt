-- The pass over the addresses of code, one after another.
use Rattle.std.proofs.Common.{◌≡◌, ◌≢◌, ◌<◌, ◌≤◌, ℕ, zero, suc, ◌+◌, Bool, true, false, cond, not, ◌&&◌, ◌||◌, List, [], ◌∷◌, drop, take, length, Option, None, Some, refl, sym, ap, subst, ◌∙◌, add-one, arith}
use Rattle.std.specs.Prelude.{slice_get, slice_set, nat_lt, nat_eq, replicate, Result, IfOk}
use Rattle.std.proofs.lemmas.Bool.{ltb-true, ltb-false, lt-ltb, eqb-true, eq-eqb, ne_eqb, false≢true}
use Rattle.std.proofs.lemmas.Option.{none-some, same_Some}
use Rattle.hera_meaning.specs.declared.schemas.RelDecl.{RelDecl}
use Rattle.hera_meaning.specs.Hosts.{Hosts}
use Rattle.hera_code.specs.declared.instrs.Instr.{Instr}
use Rattle.hera_code.specs.declared.instrs.BodyInfo.{BodyInfo}
use Rattle.hera_code.specs.declared.instrs.Code.{Code}
use Rattle.hera_typed.specs.Points.{Point, nothing}
use Rattle.hera_typed.specs.Effects.{Body_note, Goal, home, effect, is_placed}
use Rattle.hera_typed.specs.Pass.{Found, stopped, through, from_point, follow_ways, follow_all, gathers_behind, behind_walk, step, starts_at, begun_with, passed_on, pass_from, pass, broken_behind, IsLeast, PassIsExact}
use Rattle.hera_stacks.specs.declared.stacks.Node.{Node}
use Rattle.hera_effects.specs.declared.spots.Spot.{Spot}
use Rattle.hera_effects.specs.declared.spots.Ways.{Ways}
use Rattle.hera_effects.specs.Spots.{IsSpot}
use Rattle.hera_effects.specs.Ways.{Both, AreWays}
use Rattle.hera_stacks.proofs.Flattened.{drop_at}
use Rattle.hera_verify.specs.declared.tables.Table.{Table}
use Rattle.hera_verify.specs.declared.flow.Walker.{Walker}
use Rattle.hera_verify.specs.Looks.{FindsFlow}
use Rattle.hera_verify.specs.Calls.{AreCalls}
use Rattle.hera_verify.specs.Tables.{IsNearest, IsTable, Keeps, IsPlaced, IsWalked, HasPassed, fresh, begun_at, begins_at, AreStarts, if_behind}
use Rattle.hera_verify.proofs.Spanning.{set_same, set_other, set_long, there}

-- ---- the starts

-- one body more
starts_more : (bodies : List BodyInfo) (count : ℕ) (b : BodyInfo) (c : ℕ) → slice_get bodies count ≡ Some b → begins_at (take (suc count) bodies) c ≡ begins_at (take count bodies) c || nat_eq b.at c
starts_more [] count b c h = absurd (none-some b h)
starts_more (x ∷ bodies) zero b c h = by (nat_eq x.at c) ∙ ap (λ (y : BodyInfo). nat_eq y.at c) (same_Some x b h)
  where
    by : (v : Bool) → v || false ≡ v
    by true = refl
    by false = refl
starts_more (x ∷ bodies) (suc count) b c h = ap (λ v. nat_eq x.at c || v) (starts_more bodies count b c h) ∙ by (nat_eq x.at c)
  where
    by : (v : Bool) → v || (begins_at (take count bodies) c || nat_eq b.at c) ≡ (v || begins_at (take count bodies) c) || nat_eq b.at c
    by true = refl
    by false = refl

replicated : {A : Type 0} (n c : ℕ) (x o : A) → slice_get (replicate n x) c ≡ Some o → o ≡ x
replicated zero c x o h = absurd (none-some o h)
replicated (suc n) zero x o h = sym (same_Some x o h)
replicated (suc n) (suc c) x o h = replicated n c x o h

long_replicated : {A : Type 0} (n : ℕ) (x : A) → length (replicate n x) ≡ n
long_replicated zero x = refl
long_replicated (suc n) x = ap suc (long_replicated n x)

or_true : (v : Bool) → v || true ≡ true
or_true true = refl
or_true false = refl

or_false : (v : Bool) → v || false ≡ v
or_false true = refl
or_false false = refl

pub starts_on : (len : ℕ) (bodies : List BodyInfo) (count : ℕ) (b : BodyInfo) (spots : List (Option Spot)) → slice_get bodies count ≡ Some b → AreStarts len bodies count spots → AreStarts len bodies (count + 1) (begun_at spots b.at)
starts_on len bodies count b spots here h = by (nat_lt b.at (length spots)) refl
  where
    own : (c : ℕ) → begins_at (take (count + 1) bodies) c ≡ begins_at (take count bodies) c || nat_eq b.at c
    own c = ap (λ n. begins_at (take n bodies) c) (add-one count) ∙ starts_more bodies count b c here

    other : (c : ℕ) (o : Option Spot) → nat_eq b.at c ≡ false → slice_get spots c ≡ Some o → o ≡ cond (begins_at (take (count + 1) bodies) c) (Some fresh) None
    other c o e get = h.at c o get ∙ ap (λ v. cond v (Some fresh) None) (sym (own c ∙ ap (λ v. begins_at (take count bodies) c || v) e ∙ or_false (begins_at (take count bodies) c)))

    put : (c : ℕ) (o : Option Spot) (v : Bool) → nat_eq b.at c ≡ v → b.at < length spots → slice_get (slice_set spots b.at (Some fresh)) c ≡ Some o → o ≡ cond (begins_at (take (count + 1) bodies) c) (Some fresh) None
    put c o true e lt get =
        let same : b.at ≡ c = eqb-true b.at c e in
        let is : Some fresh ≡ o = same_Some (Some fresh) o (sym (set_same spots b.at (Some fresh) lt) ∙ ap (slice_get (slice_set spots b.at (Some fresh))) same ∙ get) in
        sym is ∙ ap (λ v. cond v (Some fresh) None) (sym (own c ∙ ap (λ v. begins_at (take count bodies) c || v) e ∙ or_true (begins_at (take count bodies) c)))
    put c o false e lt get = other c o e (sym (set_other spots b.at c (Some fresh) (λ same. false≢true (sym e ∙ eq-eqb b.at c same))) ∙ get)

    by : (v : Bool) → nat_lt b.at (length spots) ≡ v → AreStarts len bodies (count + 1) (cond v (slice_set spots b.at (Some fresh)) spots)
    by true e = record { long = set_long spots b.at (Some fresh) ∙ h.long; at = λ c o get. put c o (nat_eq b.at c) refl (ltb-true b.at (length spots) e) get }
    by false e = record {
      long = h.long;
      at = λ c o get.
          let lt = there spots c o get in
          other c o (ne_eqb b.at c (λ same. let le = ltb-false b.at (length spots) e in absurd (omega (arith, le, lt, same)))) get;
    }

take_all : {A : Type 0} (xs : List A) (n : ℕ) → length xs ≤ n → take n xs ≡ xs
take_all [] zero h = refl
take_all [] (suc n) h = refl
take_all (x ∷ xs) zero h = absurd (omega (arith, h))
take_all (x ∷ xs) (suc n) h = ap (λ ys. x ∷ ys) (take_all xs n (omega (arith, h)))

pub starts_end : (len : ℕ) (bodies : List BodyInfo) (count : ℕ) (spots : List (Option Spot)) → length bodies ≤ count → AreStarts len bodies count spots → AreStarts len bodies (length bodies) spots
starts_end len bodies count spots le h = record {
  long = h.long;
  at = λ c o get. h.at c o get ∙ ap (λ bs. cond (begins_at bs c) (Some fresh) None) (take_all bodies count le ∙ sym (take_all bodies (length bodies) (omega arith)));
}

-- ---- one address

module _ (code : Code) (rels : List RelDecl) (hosts : Hosts) (notes : List Body_note) where
  begins_is : (bodies : List BodyInfo) (a : ℕ) → begins_at bodies a ≡ starts_at code rels hosts notes bodies a
  begins_is [] a = refl
  begins_is (b ∷ bodies) a = ap (λ v. nat_eq b.at a || v) (begins_is bodies a)

  pub first_table : (spots : List (Option Spot)) (t : Table) → AreStarts (length code.instrs) code.bodies (length code.bodies) t.spots.items → t.broken.items ≡ replicate (length code.instrs) false → t.far ≡ None → IsTable [] (length code.instrs) t (begun_with code rels hosts notes)
  first_table spots t starts broken far = record {
    spots_long = starts.long;
    broken_long = ap length broken ∙ long_replicated (length code.instrs) false;
    points = λ c o get. by c o (starts.at c o get ∙ ap (λ bs. cond (begins_at bs c) (Some fresh) None) (take_all code.bodies (length code.bodies) (omega arith)) ∙ ap (λ v. cond v (Some fresh) None) (begins_is code.bodies c)) (let lt = there t.spots.items c o get in omega (arith, lt, starts.long));
    broken = λ c b get. replicated (length code.instrs) c false b (sym (ap (λ xs. slice_get xs c) broken) ∙ get);
    far = subst (λ o. IsNearest (length code.instrs) (λ a. false) o) (sym far) (λ c le. refl);
  }
    where
      known : (v : Bool) → Both (IsSpot []) (cond v (Some fresh) None) (cond v (Some nothing) None)
      known true = record { operands = refl; walks = refl; layers = refl }
      known false = tt

      and_so : (v : Bool) → v && true ≡ v
      and_so true = refl
      and_so false = refl

      by : (c : ℕ) (o : Option Spot) → o ≡ cond (starts_at code rels hosts notes code.bodies c) (Some fresh) None → c < length code.instrs → Both (IsSpot []) o (cond (starts_at code rels hosts notes code.bodies c && nat_lt c (length code.instrs)) (Some nothing) None)
      by c o e lt =
          let within : starts_at code rels hosts notes code.bodies c ≡ starts_at code rels hosts notes code.bodies c && nat_lt c (length code.instrs) = sym (and_so (starts_at code rels hosts notes code.bodies c)) ∙ ap (λ v. starts_at code rels hosts notes code.bodies c && v) (sym (lt-ltb c (length code.instrs) lt)) in
          subst (λ x. Both (IsSpot []) x (cond (starts_at code rels hosts notes code.bodies c && nat_lt c (length code.instrs)) (Some nothing) None)) (sym e)
          (subst (λ v. Both (IsSpot []) (cond (starts_at code rels hosts notes code.bodies c) (Some fresh) None) (cond v (Some nothing) None)) within (known (starts_at code rels hosts notes code.bodies c)))

  -- it goes on where nothing forbids it
  step_is : (a : ℕ) (i : Instr) (f : Found) → step code rels hosts notes a i f ≡ cond ((not (f.broken a) && behind_walk code rels hosts notes a) && is_placed code notes (home code a) a i) (from_point code rels hosts notes a i (f.points a) f) None
  step_is a i f = by (not (f.broken a) && behind_walk code rels hosts notes a) (is_placed code notes (home code a) a i)
    where
      by : (u v : Bool) → cond u (cond v (from_point code rels hosts notes a i (f.points a) f) None) None ≡ cond (u && v) (from_point code rels hosts notes a i (f.points a) f) None
      by true v = refl
      by false v = refl

  pub step_stops : (a : ℕ) (i : Instr) (f : Found) (v : Bool) → v ≡ (not (f.broken a) && behind_walk code rels hosts notes a) && is_placed code notes (home code a) a i → v ≡ false → step code rels hosts notes a i f ≡ None
  step_stops a i f v e h = step_is a i f ∙ ap (λ b. cond b (from_point code rels hosts notes a i (f.points a) f) None) (sym e ∙ h)

  pub step_goes : (a : ℕ) (i : Instr) (f : Found) (v : Bool) → v ≡ (not (f.broken a) && behind_walk code rels hosts notes a) && is_placed code notes (home code a) a i → v ≡ true → step code rels hosts notes a i f ≡ from_point code rels hosts notes a i (f.points a) f
  step_goes a i f v e h = step_is a i f ∙ ap (λ b. cond b (from_point code rels hosts notes a i (f.points a) f) None) (sym e ∙ h)

  module _ (nodes : List Node) where
    pub refused : (t : Table) (o : Option Found) → o ≡ None → Keeps nodes (length code.instrs) t false o
    refused t o e = subst (λ x. Keeps nodes (length code.instrs) t false x) (sym e) tt

    -- nothing is known there: nothing follows
    pub goes_unknown : (t : Table) (a : ℕ) (i : Instr) (f : Found) → slice_get t.spots.items a ≡ Some None → IsTable nodes (length code.instrs) t f → Keeps nodes (length code.instrs) t true (from_point code rels hosts notes a i (f.points a) f)
    goes_unknown t a i f get h = by (f.points a) (h.points a None get)
      where
        by : (o : Option Point) → Both (IsSpot nodes) None o → Keeps nodes (length code.instrs) t true (from_point code rels hosts notes a i o f)
        by None k = h
        by (Some p) k = absurd k

    pub goes_known : {E : Type 0} (r : Result Bool E) (before : List Node) (old t : Table) (spot : Spot) (a : ℕ) (i : Instr) (f : Found) → slice_get old.spots.items a ≡ Some (Some spot) → IsTable before (length code.instrs) old f
        → ((p : Point) → IsSpot before spot p → IfOk r (λ ok. Keeps nodes (length code.instrs) t ok (from_point code rels hosts notes a i (Some p) f))) → IfOk r (λ ok. Keeps nodes (length code.instrs) t ok (from_point code rels hosts notes a i (f.points a) f))
    goes_known r before old t spot a i f get h is = by (f.points a) (h.points a (Some spot) get)
      where
        by : (o : Option Point) → Both (IsSpot before) (Some spot) o → IfOk r (λ ok. Keeps nodes (length code.instrs) t ok (from_point code rels hosts notes a i o f))
        by None k = absurd k
        by (Some p) k = is p k

    pub keeps_known : {E : Type 0} (r : Result Bool E) (before : List Node) (old : Table) (spot : Spot) (a : ℕ) (f : Found) (T : Type 0) → slice_get old.spots.items a ≡ Some (Some spot) → IsTable before (length code.instrs) old f
        → ((p : Point) → IsSpot before spot p → IfOk r (λ ok. T)) → IfOk r (λ ok. T)
    keeps_known r before old spot a f T get h is = by (f.points a) (h.points a (Some spot) get)
      where
        by : (o : Option Point) → Both (IsSpot before) (Some spot) o → IfOk r (λ ok. T)
        by None k = absurd k
        by (Some p) k = is p k

    -- the instruction does not find what it needs
    pub follows_none : (t : Table) (a : ℕ) (i : Instr) (p : Point) (f : Found) → Both (AreWays nodes) None (effect code rels hosts notes (home code a) a i p) → Keeps nodes (length code.instrs) t false (from_point code rels hosts notes a i (Some p) f)
    follows_none t a i p f h = by (effect code rels hosts notes (home code a) a i p) h
      where
        by : (o : Option (List Goal)) → Both (AreWays nodes) None o → Keeps nodes (length code.instrs) t false (follow_ways code rels hosts notes a o f)
        by None k = tt
        by (Some gs) k = absurd k

    pub follows_some : (t : Table) (ok : Bool) (w : Ways) (a : ℕ) (i : Instr) (p : Point) (f : Found) → Both (AreWays nodes) (Some w) (effect code rels hosts notes (home code a) a i p)
        → ((gs : List Goal) → AreWays nodes w gs → Keeps nodes (length code.instrs) t ok (follow_all code rels hosts notes a gs f)) → Keeps nodes (length code.instrs) t ok (from_point code rels hosts notes a i (Some p) f)
    follows_some t ok w a i p f h is = by (effect code rels hosts notes (home code a) a i p) h
      where
        by : (o : Option (List Goal)) → Both (AreWays nodes) (Some w) o → Keeps nodes (length code.instrs) t ok (follow_ways code rels hosts notes a o f)
        by None k = absurd k
        by (Some gs) k = is gs k

  -- ---- on to the next address

  passed_next : (a : ℕ) (i : Instr) (f : Found) → slice_get code.instrs a ≡ Some i → pass_from code rels hosts notes a (drop a code.instrs) f ≡ pass code rels hosts notes
      → passed_on code rels hosts notes a (λ f. pass_from code rels hosts notes (suc a) (drop (a + 1) code.instrs) f) (step code rels hosts notes a i f) ≡ pass code rels hosts notes
  passed_next a i f here h = sym (ap (λ is. pass_from code rels hosts notes a is f) (drop_at code.instrs a i here)) ∙ h

  pub passes : (a : ℕ) (i : Instr) (f : Found) (nodes : List Node) (t : Table) (w : Walker) (on : Bool) → slice_get code.instrs a ≡ Some i → pass_from code rels hosts notes a (drop a code.instrs) f ≡ pass code rels hosts notes
      → w.table ≡ t → IsPlaced code a w.place → w.behind ≡ gathers_behind code rels hosts notes a (Some i) → AreCalls code rels hosts notes nodes w.calls → Keeps nodes (length code.instrs) t on (step code rels hosts notes a i f) → HasPassed code rels hosts notes nodes w a on
  passes a i f nodes t w on here h table place behind calls keeps = by on (step code rels hosts notes a i f) refl keeps
    where
      here_on : w.behind ≡ behind_walk code rels hosts notes (a + 1)
      here_on = behind ∙ ap (gathers_behind code rels hosts notes a) (sym here) ∙ ap (behind_walk code rels hosts notes) (sym (add-one a))

      by : (on : Bool) (o : Option Found) → step code rels hosts notes a i f ≡ o → Keeps nodes (length code.instrs) t on o → HasPassed code rels hosts notes nodes w a on
      by true None e k = absurd k
      by true (Some g) e k = (
        g,
        record {
          table = subst (λ x. IsTable nodes (length code.instrs) x g) (sym table) k;
          place = record { there = place.there; reach = place.reach; begun = let begun = place.begun in omega (arith, begun) };
          behind = here_on;
          calls = calls;
          passes = ap (λ n. pass_from code rels hosts notes n (drop (a + 1) code.instrs) g) (add-one a) ∙ sym (ap (passed_on code rels hosts notes a (λ f. pass_from code rels hosts notes (suc a) (drop (a + 1) code.instrs) f)) e) ∙ passed_next a i f here h;
        },
      )
      by false None e k = sym (passed_next a i f here h) ∙ ap (passed_on code rels hosts notes a (λ f. pass_from code rels hosts notes (suc a) (drop (a + 1) code.instrs) f)) e
      by false (Some g) e k = absurd k

  -- ---- the end

  least_finds : (a : ℕ) → IsLeast code rels hosts notes a → FindsFlow code rels hosts notes (Some a)
  least_finds a h = (λ k. h.breaks k.0 k.1, h.met)

  pub finds_stopped : (a : ℕ) → PassIsExact code rels hosts notes → pass code rels hosts notes ≡ stopped a → FindsFlow code rels hosts notes (Some a)
  finds_stopped a exact e = least_finds a (exact.stops a e)

  drop_all : {A : Type 0} (xs : List A) (n : ℕ) → length xs ≤ n → drop n xs ≡ []
  drop_all [] zero h = refl
  drop_all [] (suc n) h = refl
  drop_all (x ∷ xs) zero h = absurd (omega (arith, h))
  drop_all (x ∷ xs) (suc n) h = drop_all xs n (omega (arith, h))

  through_is : (f : Found) → pass_from code rels hosts notes (length code.instrs) (drop (length code.instrs) code.instrs) f ≡ pass code rels hosts notes → pass code rels hosts notes ≡ through f
  through_is f h = sym h ∙ ap (λ is. pass_from code rels hosts notes (length code.instrs) is f) (drop_all code.instrs (length code.instrs) (omega arith))

  pub finds_through : (nodes : List Node) (w : Walker) (f : Found) → PassIsExact code rels hosts notes → IsWalked code rels hosts notes nodes w (length code.instrs) f → FindsFlow code rels hosts notes (if_behind w.behind (length code.instrs) w.table.far)
  finds_through nodes w f exact h = by w.behind w.table.far h.behind h.table.far
    where
      is : pass code rels hosts notes ≡ through f
      is = through_is f h.passes

      len : ℕ
      len = length code.instrs

      -- behind the first address behind the code the mark alone tells
      only : (c : ℕ) → c ≢ len → broken_behind code rels hosts notes f c ≡ f.broken c
      only c apart = ap (λ v. f.broken c || (v && not (behind_walk code rels hosts notes c))) (ne_eqb c len apart) ∙ or_false (f.broken c)

      good : (c : ℕ) → true ≡ behind_walk code rels hosts notes len → broken_behind code rels hosts notes f c ≡ f.broken c
      good c e = split (nat_eq c len) refl
        where
          split : (v : Bool) → nat_eq c len ≡ v → broken_behind code rels hosts notes f c ≡ f.broken c
          split true q = ap (λ v. f.broken c || (nat_eq c len && not v)) (ap (behind_walk code rels hosts notes) (eqb-true c len q) ∙ sym e) ∙ end (nat_eq c len)
            where
              end : (v : Bool) → f.broken c || (v && false) ≡ f.broken c
              end true = or_false (f.broken c)
              end false = or_false (f.broken c)
          split false q = only c (λ same. false≢true (sym q ∙ eq-eqb c len same))

      by : (b : Bool) (far : Option ℕ) → b ≡ behind_walk code rels hosts notes len → IsNearest len f.broken far → FindsFlow code rels hosts notes (if_behind b len far)
      by true None e near = (f.points, exact.meets f is (λ a le. good a e ∙ near a le))
      by true (Some far) e near = least_finds far (exact.behind f far is near.0 (good far e ∙ near.1) (λ c le lt. good c e ∙ near.2 c le lt))
      by false far e near = least_finds len (exact.behind f len is (omega arith) broken (λ c le lt. absurd (omega (arith, le, lt))))
        where
          broken : broken_behind code rels hosts notes f len ≡ true
          broken = ap (λ v. f.broken len || (v && not (behind_walk code rels hosts notes len))) (eq-eqb len len refl) ∙ ap (λ v. f.broken len || not v) (sym e) ∙ or_true (f.broken len)

  pub finds_end : (nodes : List Node) (w : Walker) (a : ℕ) (f : Found) (o : Option ℕ) → PassIsExact code rels hosts notes → a ≡ length code.instrs → IsWalked code rels hosts notes nodes w a f → o ≡ if_behind w.behind (length code.instrs) w.table.far → FindsFlow code rels hosts notes o
  finds_end nodes w a f o exact e h is = subst (λ x. FindsFlow code rels hosts notes x) (sym is) (finds_through nodes w f exact (subst (λ (n : ℕ). IsWalked code rels hosts notes nodes w n f) e h))

  -- what HasPassed says of either answer
  pub passed_so : (nodes : List Node) (w : Walker) (a : ℕ) (on : Bool) → on ≡ true → HasPassed code rels hosts notes nodes w a on → (f : Found) × IsWalked code rels hosts notes nodes w (a + 1) f
  passed_so nodes w a on e h = subst (λ v. HasPassed code rels hosts notes nodes w a v) e h

  pub passed_not : (nodes : List Node) (w : Walker) (a : ℕ) (on : Bool) → on ≡ false → HasPassed code rels hosts notes nodes w a on → pass code rels hosts notes ≡ stopped a
  passed_not nodes w a on e h = subst (λ v. HasPassed code rels hosts notes nodes w a v) e h
