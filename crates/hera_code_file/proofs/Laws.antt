-- What is read of a part is what is written of it, and the other way round.
use Rattle.std.proofs.Common.{◌≡◌, ◌<◌, ◌≤◌, ◌^◌, ℕ, zero, suc, ◌+◌, Bool, true, cond, List, [], ◌∷◌, ◌++◌, length, take, drop, Option, Some, None, Result, Ok, Err, refl, sym, ap, subst, ◌∙◌, append_assoc, arith}
use Rattle.std.specs.Prelude.{nat_lt, nat_le}
use Rattle.std.specs.List.{flat_map, AllByRecursion}
use Rattle.std.specs.Int.{Width, w16, w32, w64, byte_len, from_be_bytes, to_be_bytes}
use Rattle.std.proofs.lemmas.Bool.{leb-true, le-leb, ltb-true}
use Rattle.std.proofs.lemmas.Option.{same_Some, cond_some}
use Rattle.std.proofs.lemmas.List.{take_at, drop_at, take-append-drop, length-append, length-take, append-nil}
use Rattle.std.proofs.lemmas.Nat.{be_bytes_2, be_bytes_4, be_bytes_8, from_be_bytes-to_be_bytes_2, from_be_bytes-to_be_bytes_4, from_be_bytes-to_be_bytes_8}
use Rattle.hera_row.proofs.FieldLemmas.{AreBytes, AreBytes-take, AreBytes-drop}
use Rattle.rel_format.specs.Fields.{kept, number}
use Rattle.rel_format.proofs.Printed.{kept_is}
use Rattle.hera_code_file.specs.Printing.{word, list_bytes}
use Rattle.hera_code_file.specs.Fitting.{IsWord, Each}
use Rattle.hera_code_file.specs.Reading.{◌>>=◌, Reader, field, bare, one, two, three, at_place, small, numbered, many, number_at, word_at, list_at}

-- the value of a step that did not fail
pub bind_ok : {A B : Type 0} (r : Result A ℕ) (f : A → Result B ℕ) (y : B) → (r >>= f) ≡ Ok y → (x : A) × (r ≡ Ok x) × (f x ≡ Ok y)
bind_ok (Ok x) f y e = (x, refl, e)
bind_ok (Err d) f y e = absurd cc

abbrev read_is : {A : Type 0} → A → Result A ℕ
read_is x = Ok x

pub ok_is : {A : Type 0} (x y : A) → read_is x ≡ read_is y → x ≡ y
ok_is x y e = cc

-- what was taken from the front
pub record Taken (bytes text rest : List ℕ) : Type 0 where
  pub parts : bytes ≡ text ++ rest
  pub fits : AreBytes rest

pub then : (a x b y c : List ℕ) → Taken a x b → Taken b y c → Taken a (x ++ y) c
then a x b y c p q = record { parts = p.parts ∙ ap (λ (t : List ℕ). x ++ t) q.parts ∙ sym (append_assoc x y c); fits = q.fits }

pub behind : (t : ℕ) (bytes text rest all : List ℕ) → all ≡ t ∷ text → Taken bytes text rest → Taken (t ∷ bytes) all rest
behind t bytes text rest all same p = record { parts = ap (λ (w : List ℕ). t ∷ w) p.parts ∙ ap (λ (w : List ℕ). w ++ rest) (sym same); fits = p.fits }

pub record Law (A : Type 0) (read : Reader A) (text : A → List ℕ) (Fits : A → Type 0) : Type 0 where
  pub takes : (bytes : List ℕ) (x : A) (rest : List ℕ) → AreBytes bytes → read bytes ≡ Ok (x, rest) → Taken bytes (text x) rest × Fits x
  pub again : (x : A) (rest : List ℕ) → Fits x → read (text x ++ rest) ≡ Ok (x, rest)

-- ---- single fields

pub field_ok : {A : Type 0} (n : ℕ) (o : Option A) (bytes : List ℕ) (x : A) (rest : List ℕ) → field n o bytes ≡ Ok (x, rest) → (o ≡ Some x) × (drop n bytes ≡ rest)
field_ok n None bytes x rest e = absurd cc
field_ok {A} n (Some y) bytes x rest e =
    let same : (y, drop n bytes) ≡ (x, rest) = ok_is {A = A × List ℕ} (y, drop n bytes) (x, rest) e in
    (ap (λ (p : A × List ℕ). Some p.0) same, ap (λ (p : A × List ℕ). p.1) same)

pub small_takes : (limit : ℕ) (bytes : List ℕ) (n : ℕ) (rest : List ℕ) → small limit bytes ≡ Ok (n, rest) → (bytes ≡ n ∷ rest) × (n < limit)
small_takes limit [] n rest e = absurd cc
small_takes limit (b ∷ bytes) n rest e =
    let f = field_ok 1 (kept (λ k. nat_lt k limit) (Some b)) (b ∷ bytes) n rest e in
    let k = kept_is (λ k. nat_lt k limit) (Some b) n f.0 in
    (ap (λ (m : ℕ). m ∷ bytes) (same_Some b n k.0) ∙ ap (λ (t : List ℕ). n ∷ t) f.1, ltb-true n limit k.1)

pub small_again : (limit t : ℕ) (rest : List ℕ) → nat_lt t limit ≡ true → small limit (t ∷ rest) ≡ Ok (t, rest)
small_again limit t rest h = ap (λ (b : Bool). field 1 (cond b (Some t) None) (t ∷ rest)) h

-- ---- numbers

record IsWide (w : Width) (limit : ℕ) : Type 0 where
  pub len : (n : ℕ) → length (to_be_bytes w n) ≡ byte_len w
  pub back : (bytes : List ℕ) → length bytes ≡ byte_len w → AreBytes bytes → to_be_bytes w (from_be_bytes w bytes) ≡ bytes
  pub again : (n : ℕ) → n < limit → from_be_bytes w (to_be_bytes w n) ≡ n
  pub below : (bytes : List ℕ) → AreBytes bytes → from_be_bytes w bytes < limit

wide16 : IsWide w16 (2 ^ 16)
wide16 = record {
  len = λ n. refl;
  back = λ bytes len fits. be_bytes_2 bytes _ len fits refl;
  again = λ n lt. from_be_bytes-to_be_bytes_2 n lt;
  below = λ bytes fits. omega (arith, fits 0, fits 1);
}

wide32 : IsWide w32 (2 ^ 32)
wide32 = record {
  len = λ n. refl;
  back = λ bytes len fits. be_bytes_4 bytes _ len fits refl;
  again = λ n lt. from_be_bytes-to_be_bytes_4 n lt;
  below = λ bytes fits. omega (arith, fits 0, fits 1, fits 2, fits 3);
}

wide64 : IsWide w64 (2 ^ 64)
wide64 = record {
  len = λ n. refl;
  back = λ bytes len fits. be_bytes_8 bytes _ len fits refl;
  again = λ n lt. from_be_bytes-to_be_bytes_8 n lt;
  below = λ bytes fits. omega (arith, fits 0, fits 1, fits 2, fits 3, fits 4, fits 5, fits 6, fits 7);
}

number_law : (w : Width) (limit : ℕ) → IsWide w limit → Law ℕ (number_at w) (to_be_bytes w) (λ n. n < limit)
number_law w limit wide = record { takes = takes; again = again }
  where
    takes : (bytes : List ℕ) (n : ℕ) (rest : List ℕ) → AreBytes bytes → number_at w bytes ≡ Ok (n, rest) → Taken bytes (to_be_bytes w n) rest × (n < limit)
    takes bytes n rest fits e =
        let f = field_ok (byte_len w) (number w bytes) bytes n rest e in
        let g = cond_some (nat_le (byte_len w) (length bytes)) (from_be_bytes w (take (byte_len w) bytes)) n f.0 in
        let long : byte_len w ≤ length bytes = leb-true _ _ g.0 in
        let front : to_be_bytes w n ≡ take (byte_len w) bytes = rw (← g.1) (wide.back (take (byte_len w) bytes) (omega (arith, length-take (byte_len w) bytes)) (AreBytes-take (byte_len w) bytes fits)) in
        (record { parts = rw (front, ← f.1) (sym (take-append-drop (byte_len w) bytes)); fits = rw (← f.1) (AreBytes-drop (byte_len w) bytes fits) }, rw (← g.1) (wide.below (take (byte_len w) bytes) (AreBytes-take (byte_len w) bytes fits)))

    again : (n : ℕ) (rest : List ℕ) → n < limit → number_at w (to_be_bytes w n ++ rest) ≡ Ok (n, rest)
    again n rest lt =
        let len = wide.len n in
        let long : nat_le (byte_len w) (length (to_be_bytes w n ++ rest)) ≡ true = le-leb _ _ (omega (arith, length-append (to_be_bytes w n) rest)) in
        rw (long, take_at (to_be_bytes w n) rest (byte_len w) len, drop_at (to_be_bytes w n) rest (byte_len w) len, wide.again n lt) refl

pub half_law : Law ℕ (number_at w16) (to_be_bytes w16) (λ n. n < 2 ^ 16)
half_law = number_law w16 (2 ^ 16) wide16

pub word_law : Law ℕ word_at word IsWord
word_law = number_law w32 (2 ^ 32) wide32

pub double_law : Law ℕ (number_at w64) (to_be_bytes w64) (λ n. n < 2 ^ 64)
double_law = number_law w64 (2 ^ 64) wide64

-- ---- parts behind a number

pub record Entry (A : Type 0) (t : ℕ) (read : Reader A) (text : A → List ℕ) (Fits : A → Type 0) : Type 0 where
  pub takes : (bytes : List ℕ) (x : A) (rest : List ℕ) → AreBytes bytes → read bytes ≡ Ok (x, rest) → Taken (t ∷ bytes) (text x) rest × Fits x

abbrev pub Entries : (A : Type 0) → (A → List ℕ) → (A → Type 0) → ℕ → List (Reader A) → Type 0
Entries A text Fits t [] = Unit {0}
Entries A text Fits t (r ∷ readers) = Entry A t r text Fits × Entries A text Fits (suc t) readers

pub entry_bare : {B : Type 0} (t : ℕ) (b : B) (text : B → List ℕ) (Fits : B → Type 0) → text b ≡ t ∷ [] → Fits b → Entry B t (bare b) text Fits
entry_bare {B} t b text Fits same fit = record {
  takes = λ bytes x rest are e.
      subst (λ (z : B × List ℕ). Taken (t ∷ bytes) (text z.0) z.1 × Fits z.0) (ok_is {A = B × List ℕ} (b, bytes) (x, rest) e)
      (behind t bytes [] bytes (text b) same (record { parts = refl; fits = are }), fit);
}

pub entry_one : {A B : Type 0} (t : ℕ) (make : A → B) (read : Reader A) (part : A → List ℕ) (FitsA : A → Type 0) (text : B → List ℕ) (Fits : B → Type 0) → Law A read part FitsA → ((a : A) → FitsA a → text (make a) ≡ t ∷ part a) → ((a : A) → FitsA a → Fits (make a)) → Entry B t (one make read) text Fits
entry_one {A} {B} t make read part FitsA text Fits law same fit = record {
  takes = λ bytes x rest are e.
      let b = bind_ok (read bytes) (λ y. Ok (make y.0, y.1)) (x, rest) e in
      let l = law.takes bytes b.0.0 b.0.1 are b.1 in
      subst (λ (z : B × List ℕ). Taken (t ∷ bytes) (text z.0) z.1 × Fits z.0) (ok_is {A = B × List ℕ} (make b.0.0, b.0.1) (x, rest) b.2)
      (behind t bytes (part b.0.0) b.0.1 (text (make b.0.0)) (same b.0.0 l.1) l.0, fit b.0.0 l.1);
}

pub entry_two : {A B C : Type 0} (t : ℕ) (make : A → B → C) (ra : Reader A) (pa : A → List ℕ) (FA : A → Type 0) (rb : Reader B) (pb : B → List ℕ) (FB : B → Type 0) (text : C → List ℕ) (Fits : C → Type 0) → Law A ra pa FA → Law B rb pb FB →
    ((a : A) (b : B) → text (make a b) ≡ t ∷ pa a ++ pb b) → ((a : A) (b : B) → FA a → FB b → Fits (make a b)) → Entry C t (two make ra rb) text Fits
entry_two {A} {B} {C} t make ra pa FA rb pb FB text Fits la lb same fit = record {
  takes = λ bytes x rest are e.
      let a = bind_ok (ra bytes) (λ y. rb y.1 >>= λ z. Ok (make y.0 z.0, z.1)) (x, rest) e in
      let b = bind_ok (rb a.0.1) (λ z. Ok (make a.0.0 z.0, z.1)) (x, rest) a.2 in
      let k = la.takes bytes a.0.0 a.0.1 are a.1 in
      let l = lb.takes a.0.1 b.0.0 b.0.1 k.0.fits b.1 in
      subst (λ (z : C × List ℕ). Taken (t ∷ bytes) (text z.0) z.1 × Fits z.0) (ok_is {A = C × List ℕ} (make a.0.0 b.0.0, b.0.1) (x, rest) b.2)
      (behind t bytes (pa a.0.0 ++ pb b.0.0) b.0.1 (text (make a.0.0 b.0.0)) (same a.0.0 b.0.0) (then bytes (pa a.0.0) a.0.1 (pb b.0.0) b.0.1 k.0 l.0), fit a.0.0 b.0.0 k.1 l.1);
}

pub entry_three : {A B C D : Type 0} (t : ℕ) (make : A → B → C → D) (ra : Reader A) (pa : A → List ℕ) (FA : A → Type 0) (rb : Reader B) (pb : B → List ℕ) (FB : B → Type 0) (rc : Reader C) (pc : C → List ℕ) (FC : C → Type 0) (text : D → List ℕ) (Fits : D → Type 0) →
    Law A ra pa FA → Law B rb pb FB → Law C rc pc FC → ((a : A) (b : B) (c : C) → text (make a b c) ≡ t ∷ pa a ++ (pb b ++ pc c)) → ((a : A) (b : B) (c : C) → FA a → FB b → FC c → Fits (make a b c)) → Entry D t (three make ra rb rc) text Fits
entry_three {A} {B} {C} {D} t make ra pa FA rb pb FB rc pc FC text Fits la lb lc same fit = record {
  takes = λ bytes x rest are e.
      let a = bind_ok (ra bytes) (λ y. rb y.1 >>= λ z. rc z.1 >>= λ w. Ok (make y.0 z.0 w.0, w.1)) (x, rest) e in
      let b = bind_ok (rb a.0.1) (λ z. rc z.1 >>= λ w. Ok (make a.0.0 z.0 w.0, w.1)) (x, rest) a.2 in
      let c = bind_ok (rc b.0.1) (λ w. Ok (make a.0.0 b.0.0 w.0, w.1)) (x, rest) b.2 in
      let k = la.takes bytes a.0.0 a.0.1 are a.1 in
      let l = lb.takes a.0.1 b.0.0 b.0.1 k.0.fits b.1 in
      let m = lc.takes b.0.1 c.0.0 c.0.1 l.0.fits c.1 in
      subst (λ (z : D × List ℕ). Taken (t ∷ bytes) (text z.0) z.1 × Fits z.0) (ok_is {A = D × List ℕ} (make a.0.0 b.0.0 c.0.0, c.0.1) (x, rest) c.2) (
        behind t bytes (pa a.0.0 ++ (pb b.0.0 ++ pc c.0.0)) c.0.1 (text (make a.0.0 b.0.0 c.0.0)) (same a.0.0 b.0.0 c.0.0)
            (then bytes (pa a.0.0) a.0.1 (pb b.0.0 ++ pc c.0.0) c.0.1 k.0 (then a.0.1 (pb b.0.0) b.0.1 (pc c.0.0) c.0.1 l.0 m.0)),
        fit a.0.0 b.0.0 c.0.0 k.1 l.1 m.1,
      );
}

at_entry : {A : Type 0} (text : A → List ℕ) (Fits : A → Type 0) (readers : List (Reader A)) (t n m : ℕ) (bytes : List ℕ) (x : A) (rest : List ℕ) → Entries A text Fits t readers → t + n ≡ m → AreBytes bytes → at_place readers n bytes ≡ Ok (x, rest) → Taken (m ∷ bytes) (text x) rest × Fits x
at_entry text Fits [] t n m bytes x rest es same are e = absurd cc
at_entry text Fits (r ∷ readers) t zero m bytes x rest es same are e =
    let here : t ≡ m = omega (arith, same) in
    subst (λ (k : ℕ). Taken (k ∷ bytes) (text x) rest × Fits x) here (es.0.takes bytes x rest are e)
at_entry text Fits (r ∷ readers) t (suc n) m bytes x rest es same are e = at_entry text Fits readers (suc t) n m bytes x rest es.1 (omega (arith, same)) are e

pub numbered_takes : {A : Type 0} (text : A → List ℕ) (Fits : A → Type 0) (readers : List (Reader A)) → Entries A text Fits 0 readers → (bytes : List ℕ) (x : A) (rest : List ℕ) → AreBytes bytes → numbered readers bytes ≡ Ok (x, rest) → Taken bytes (text x) rest × Fits x
numbered_takes text Fits readers es bytes x rest are e =
    let b = bind_ok (small (length readers) bytes) (λ n. at_place readers n.0 n.1) (x, rest) e in
    let s = small_takes (length readers) bytes b.0.0 b.0.1 b.1 in
    let tail : AreBytes b.0.1 = λ i. subst AreBytes s.0 are (suc i) in
    subst (λ (t : List ℕ). Taken t (text x) rest × Fits x) (sym s.0) (at_entry text Fits readers 0 b.0.0 b.0.0 b.0.1 x rest es (omega arith) tail b.2)

pub numbered_again : {A : Type 0} (readers : List (Reader A)) (t : ℕ) (tail : List ℕ) (x : A) (rest : List ℕ) → nat_lt t (length readers) ≡ true → at_place readers t tail ≡ Ok (x, rest) → numbered readers (t ∷ tail) ≡ Ok (x, rest)
numbered_again {A} readers t tail x rest h e = ap (λ (r : Result (ℕ × List ℕ) ℕ). r >>= λ n. at_place readers n.0 n.1) (small_again (length readers) t tail h) ∙ e

pub one_again : {A B : Type 0} (make : A → B) (read : Reader A) (part : A → List ℕ) (FA : A → Type 0) → Law A read part FA → (a : A) (rest : List ℕ) → FA a → one make read (part a ++ rest) ≡ Ok (make a, rest)
one_again {A} make read part FA law a rest f = ap (λ (r : Result (A × List ℕ) ℕ). r >>= λ x. Ok (make x.0, x.1)) (law.again a rest f)

pub two_again : {A B C : Type 0} (make : A → B → C) (ra : Reader A) (pa : A → List ℕ) (FA : A → Type 0) (rb : Reader B) (pb : B → List ℕ) (FB : B → Type 0) → Law A ra pa FA → Law B rb pb FB → (a : A) (b : B) (rest : List ℕ) → FA a → FB b → two make ra rb ((pa a ++ pb b) ++ rest) ≡ Ok (make a b, rest)
two_again {A} {B} make ra pa FA rb pb FB la lb a b rest f g =
    ap (two make ra rb) (append_assoc (pa a) (pb b) rest)
    ∙ ap (λ (r : Result (A × List ℕ) ℕ). r >>= λ x. rb x.1 >>= λ y. Ok (make x.0 y.0, y.1)) (la.again a (pb b ++ rest) f)
    ∙ ap (λ (r : Result (B × List ℕ) ℕ). r >>= λ y. Ok (make a y.0, y.1)) (lb.again b rest g)

pub three_again : {A B C D : Type 0} (make : A → B → C → D) (ra : Reader A) (pa : A → List ℕ) (FA : A → Type 0) (rb : Reader B) (pb : B → List ℕ) (FB : B → Type 0) (rc : Reader C) (pc : C → List ℕ) (FC : C → Type 0) → Law A ra pa FA → Law B rb pb FB → Law C rc pc FC →
    (a : A) (b : B) (c : C) (rest : List ℕ) → FA a → FB b → FC c → three make ra rb rc ((pa a ++ (pb b ++ pc c)) ++ rest) ≡ Ok (make a b c, rest)
three_again {A} {B} {C} make ra pa FA rb pb FB rc pc FC la lb lc a b c rest f g h =
    ap (three make ra rb rc) (append_assoc (pa a) (pb b ++ pc c) rest ∙ ap (λ (t : List ℕ). pa a ++ t) (append_assoc (pb b) (pc c) rest))
    ∙ ap (λ (r : Result (A × List ℕ) ℕ). r >>= λ x. rb x.1 >>= λ y. rc y.1 >>= λ z. Ok (make x.0 y.0 z.0, z.1)) (la.again a (pb b ++ (pc c ++ rest)) f)
    ∙ ap (λ (r : Result (B × List ℕ) ℕ). r >>= λ y. rc y.1 >>= λ z. Ok (make a y.0 z.0, z.1)) (lb.again b (pc c ++ rest) g)
    ∙ ap (λ (r : Result (C × List ℕ) ℕ). r >>= λ z. Ok (make a b z.0, z.1)) (lc.again c rest h)

-- ---- lists

-- a reader that looks at what was read before
pub record Step (A : Type 0) (read : List A → Reader A) (text : A → List ℕ) (Fits : List A → A → Type 0) : Type 0 where
  pub takes : (before : List A) (bytes : List ℕ) (x : A) (rest : List ℕ) → AreBytes bytes → read before bytes ≡ Ok (x, rest) → Taken bytes (text x) rest × Fits before x
  pub again : (before : List A) (x : A) (rest : List ℕ) → Fits before x → read before (text x ++ rest) ≡ Ok (x, rest)

abbrev pub AllBehind : {A : Type 0} → (List A → A → Type 0) → List A → List A → Type 0
AllBehind Fits before [] = Unit {0}
AllBehind Fits before (x ∷ xs) = Fits before x × AllBehind Fits (before ++ x ∷ []) xs

pub record Many (A : Type 0) (text : A → List ℕ) (Fits : List A → A → Type 0) (n : ℕ) (before : List A) (bytes : List ℕ) (all : List A) (rest : List ℕ) : Type 0 where
  pub read : List A
  pub all_is : all ≡ before ++ read
  pub count : length read ≡ n
  pub taken : Taken bytes (flat_map text read) rest
  pub fits : AllBehind Fits before read

pub many_takes : {A : Type 0} (read : List A → Reader A) (text : A → List ℕ) (Fits : List A → A → Type 0) → Step A read text Fits → (n : ℕ) (before : List A) (bytes : List ℕ) (all : List A) (rest : List ℕ) → AreBytes bytes → many read n before bytes ≡ Ok (all, rest) → Many A text Fits n before bytes all rest
many_takes {A} read text Fits step zero before bytes all rest are e =
    let same : (before, bytes) ≡ (all, rest) = ok_is {A = List A × List ℕ} (before, bytes) (all, rest) e in
    subst (λ (z : List A × List ℕ). Many A text Fits 0 before bytes z.0 z.1) same (record { read = []; all_is = sym (append-nil before); count = refl; taken = record { parts = refl; fits = are }; fits = tt })
many_takes {A} read text Fits step (suc n) before bytes all rest are e =
    let b = bind_ok (read before bytes) (λ x. many read n (before ++ x.0 ∷ []) x.1) (all, rest) e in
    let one = step.takes before bytes b.0.0 b.0.1 are b.1 in
    let more = many_takes read text Fits step n (before ++ b.0.0 ∷ []) b.0.1 all rest one.0.fits b.2 in
    record {
      read = b.0.0 ∷ more.read;
      all_is = more.all_is ∙ append_assoc before (b.0.0 ∷ []) more.read;
      count = omega (arith, more.count);
      taken = then bytes (text b.0.0) b.0.1 (flat_map text more.read) rest one.0 more.taken;
      fits = (one.1, more.fits);
    }

pub many_again : {A : Type 0} (read : List A → Reader A) (text : A → List ℕ) (Fits : List A → A → Type 0) → Step A read text Fits → (before xs : List A) (rest : List ℕ) → AllBehind Fits before xs → many read (length xs) before (flat_map text xs ++ rest) ≡ Ok (before ++ xs, rest)
many_again {A} read text Fits step before [] rest fits = ap (λ (l : List A). Ok (l, rest)) (sym (append-nil before))
many_again {A} read text Fits step before (x ∷ xs) rest fits =
    ap (many read (suc (length xs)) before) (append_assoc (text x) (flat_map text xs) rest)
    ∙ ap (λ (r : Result (A × List ℕ) ℕ). r >>= λ y. many read (length xs) (before ++ y.0 ∷ []) y.1) (step.again before x (flat_map text xs ++ rest) fits.0)
    ∙ many_again read text Fits step (before ++ x ∷ []) xs rest fits.1
    ∙ ap (λ (l : List A). Ok (l, rest)) (append_assoc before (x ∷ []) xs)

plain_step : {A : Type 0} (read : Reader A) (text : A → List ℕ) (Fits : A → Type 0) → Law A read text Fits → Step A (λ before. read) text (λ before. Fits)
plain_step read text Fits law = record { takes = λ before bytes x rest are e. law.takes bytes x rest are e; again = λ before x rest f. law.again x rest f }

plain_all : {A : Type 0} (Fits : A → Type 0) (before xs : List A) → AllBehind (λ before. Fits) before xs → AllByRecursion Fits xs
plain_all Fits before [] h = tt
plain_all Fits before (x ∷ xs) h = (h.0, plain_all Fits (before ++ x ∷ []) xs h.1)

all_plain : {A : Type 0} (Fits : A → Type 0) (before xs : List A) → AllByRecursion Fits xs → AllBehind (λ before. Fits) before xs
all_plain Fits before [] h = tt
all_plain Fits before (x ∷ xs) h = (h.0, all_plain Fits (before ++ x ∷ []) xs h.1)

pub list_law : {A : Type 0} (read : Reader A) (text : A → List ℕ) (Fits : A → Type 0) → Law A read text Fits → Law (List A) (list_at read) (list_bytes text) (Each Fits)
list_law {A} read text Fits law = record { takes = takes; again = again }
  where
    takes : (bytes : List ℕ) (xs : List A) (rest : List ℕ) → AreBytes bytes → list_at read bytes ≡ Ok (xs, rest) → Taken bytes (list_bytes text xs) rest × Each Fits xs
    takes bytes xs rest are e =
        let b = bind_ok (word_at bytes) (λ n. many (λ before. read) n.0 [] n.1) (xs, rest) e in
        let n = word_law.takes bytes b.0.0 b.0.1 are b.1 in
        let m = many_takes (λ before. read) text (λ before. Fits) (plain_step read text Fits law) b.0.0 [] b.0.1 xs rest n.0.fits b.2 in
        let count : b.0.0 ≡ length xs = sym m.count ∙ ap (λ (l : List A). length l) (sym m.all_is) in
        let body : Taken b.0.1 (flat_map text xs) rest = subst (λ (l : List A). Taken b.0.1 (flat_map text l) rest) (sym m.all_is) m.taken in
        let all : AllByRecursion Fits xs = subst (AllByRecursion Fits) (sym m.all_is) (plain_all Fits [] m.read m.fits) in
        (subst (λ (k : ℕ). Taken bytes (word k ++ flat_map text xs) rest) count (then bytes (word b.0.0) b.0.1 (flat_map text xs) rest n.0 body), (subst IsWord count n.1, all))

    again : (xs : List A) (rest : List ℕ) → Each Fits xs → list_at read (list_bytes text xs ++ rest) ≡ Ok (xs, rest)
    again xs rest f =
        ap (list_at read) (append_assoc (word (length xs)) (flat_map text xs) rest)
        ∙ ap (λ (r : Result (ℕ × List ℕ) ℕ). r >>= λ n. many (λ before. read) n.0 [] n.1) (word_law.again (length xs) (flat_map text xs ++ rest) f.0)
        ∙ many_again (λ before. read) text (λ before. Fits) (plain_step read text Fits law) [] xs rest (all_plain Fits [] xs f.1)
