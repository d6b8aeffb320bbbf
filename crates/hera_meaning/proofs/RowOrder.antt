-- The rows of tuples stand in the order of the tuples.
use Rattle.std.proofs.Common.{◌≡◌, ℕ, ℤ, pos, negsuc, ◌+◌, ◌-◌, ◌^◌, ◌<◌, ◌&&◌, ◌||◌, Bool, true, false, not, cond, List, [], ◌∷◌, ◌++◌, refl, sym, ap, ◌∙◌, arith, append_assoc, nat_lt, int_lt}
use Rattle.std.specs.List.{list_all}
use Rattle.std.specs.Ordering.{nat_cmp, int_cmp, ordering_then, ordering_reverse, is_lt, is_gt, is_eq}
use Rattle.std.specs.declared.cmp.Ordering.{Ordering}
use Rattle.std.specs.declared.cmp.Ordering.TheVariants.{Less, Equal, Greater}
use Rattle.std.specs.Cmp.Lexicographic.{slice_cmp, nat_list_cmp_total}
use Rattle.std.specs.FinMap.{nat_cmp-IsAntisymmetric, int_cmp-IsAntisymmetric, slice_cmp-IsAntisymmetric}
use Rattle.std.proofs.lemmas.Cmp.{int_cmp_total}
use Rattle.std.proofs.lemmas.List.{append-nil}
use Rattle.std.proofs.lemmas.Bool.{ltb-true, and_parts, false≢true}
use Rattle.std.proofs.lemmas.Bool.Decides.{nat_tests}
use Rattle.hera_sets.specs.Rows.{is_below, is_same}
use Rattle.hera_sets.proofs.Order.{same_itself}
use Rattle.hera_meaning.specs.declared.scalars.Kind.{Kind}
use Rattle.hera_meaning.specs.declared.scalars.Kind.TheVariants.{Int as int_kind, Bool as bool_kind, Text as text_kind}
use Rattle.hera_meaning.specs.declared.scalars.Scalar.{Scalar}
use Rattle.hera_meaning.specs.declared.scalars.Scalar.TheVariants.{Int as int_scalar, Bool as bool_scalar, Text as text_scalar}
use Rattle.hera_meaning.specs.declared.schemas.Attr.{Attr}
use Rattle.hera_meaning.specs.Scalars.{fits_int, is_kind, is_scalar, scalar_less, tuple_less, is_tuple}
use Rattle.hera_meaning.specs.Texts.{is_text}
use Rattle.hera_meaning.specs.Rows.{shifted, field_bytes, row_of}
use Rattle.hera_meaning.proofs.ByteOrder.{cmp_less, cmp_greater, then_assoc, cmp_bytes}

-- how two scalars of one kind stand
abbrev pub scalar_cmp : Scalar → Scalar → Ordering
scalar_cmp (int_scalar v) (int_scalar w) = int_cmp v w
scalar_cmp (bool_scalar b) (bool_scalar c) = nat_cmp (cond b 1 0) (cond c 1 0)
scalar_cmp (text_scalar t) (text_scalar u) = slice_cmp nat_cmp t u
scalar_cmp _ _ = Equal

-- field by field from the left
abbrev pub tuple_cmp : List Scalar → List Scalar → Ordering
tuple_cmp (a ∷ rest) (b ∷ others) = ordering_then (scalar_cmp a b) (tuple_cmp rest others)
tuple_cmp _ _ = Equal

-- each byte is above 0
abbrev pub has_no_zero : List ℕ → Bool
has_no_zero t = list_all (λ b. nat_lt 0 b) t

-- a text and its 0, and what follows
cmp_texts : (t u us vs : List ℕ) → has_no_zero t ≡ true → has_no_zero u ≡ true → slice_cmp nat_cmp ((t ++ 0 ∷ []) ++ us) ((u ++ 0 ∷ []) ++ vs) ≡ ordering_then (slice_cmp nat_cmp t u) (slice_cmp nat_cmp us vs)
cmp_texts [] [] us vs h g = refl
cmp_texts [] (y ∷ ys) us vs h g = rw (cmp_less 0 y (ltb-true 0 y (and_parts (nat_lt 0 y) (has_no_zero ys) g).0)) refl
cmp_texts (x ∷ xs) [] us vs h g = rw (cmp_greater x 0 (ltb-true 0 x (and_parts (nat_lt 0 x) (has_no_zero xs) h).0)) refl
cmp_texts (x ∷ xs) (y ∷ ys) us vs h g =
    ap (ordering_then (nat_cmp x y)) (cmp_texts xs ys us vs (and_parts (nat_lt 0 x) (has_no_zero xs) h).1 (and_parts (nat_lt 0 y) (has_no_zero ys) g).1)
    ∙ sym (then_assoc (nat_cmp x y) (slice_cmp nat_cmp xs ys) (slice_cmp nat_cmp us vs))

-- the shifted ints are in the ints' order
cmp_shifted : (v w : ℤ) → fits_int v ≡ true → fits_int w ≡ true → nat_cmp (shifted v) (shifted w) ≡ int_cmp v w
cmp_shifted (pos m) (pos n) f g = grind (arith, nat_tests)
cmp_shifted (pos m) (negsuc n) f g = cmp_greater (9223372036854775808 + m) (9223372036854775807 - n) (omega arith)
cmp_shifted (negsuc m) (pos n) f g = cmp_less (9223372036854775807 - m) (9223372036854775808 + n) (omega arith)
cmp_shifted (negsuc m) (negsuc n) f g =
    let a : m < 9223372036854775808 = ltb-true m 9223372036854775808 f in
    let b : n < 9223372036854775808 = ltb-true n 9223372036854775808 g in
    below m n a b
  where
    below : (m n : ℕ) → m < 9223372036854775808 → n < 9223372036854775808 → nat_cmp (9223372036854775807 - m) (9223372036854775807 - n) ≡ int_cmp (negsuc m) (negsuc n)
    below m n a b = grind (arith, nat_tests)

pub shifted_fits : (v : ℤ) → fits_int v ≡ true → shifted v < 256 ^ 8
shifted_fits (pos n) f = omega (arith, ltb-true n (2 ^ 63) f)
shifted_fits (negsuc n) f = omega (arith, ltb-true n (2 ^ 63) f)

pub no_zero : (t : List ℕ) → is_text t ≡ true → has_no_zero t ≡ true
no_zero t h = (and_parts _ _ (and_parts _ _ h).0).1

-- a field decides as its value does, and what follows decides where values tie
cmp_field : (k : Kind) (a b : Scalar) (us vs : List ℕ) → is_kind k a ≡ true → is_scalar a ≡ true → is_kind k b ≡ true → is_scalar b ≡ true
    → slice_cmp nat_cmp (field_bytes a ++ us) (field_bytes b ++ vs) ≡ ordering_then (scalar_cmp a b) (slice_cmp nat_cmp us vs)
cmp_field k (int_scalar v) (int_scalar w) us vs p f q g =
    cmp_bytes 8 (shifted v) (shifted w) us vs (shifted_fits v f) (shifted_fits w g)
    ∙ ap (λ (o : Ordering). ordering_then o (slice_cmp nat_cmp us vs)) (cmp_shifted v w f g)
cmp_field int_kind (int_scalar v) (bool_scalar c) us vs p f q g = absurd (false≢true q)
cmp_field bool_kind (int_scalar v) (bool_scalar c) us vs p f q g = absurd (false≢true p)
cmp_field text_kind (int_scalar v) (bool_scalar c) us vs p f q g = absurd (false≢true p)
cmp_field int_kind (int_scalar v) (text_scalar u) us vs p f q g = absurd (false≢true q)
cmp_field bool_kind (int_scalar v) (text_scalar u) us vs p f q g = absurd (false≢true p)
cmp_field text_kind (int_scalar v) (text_scalar u) us vs p f q g = absurd (false≢true p)
cmp_field int_kind (bool_scalar b) (int_scalar w) us vs p f q g = absurd (false≢true p)
cmp_field bool_kind (bool_scalar b) (int_scalar w) us vs p f q g = absurd (false≢true q)
cmp_field text_kind (bool_scalar b) (int_scalar w) us vs p f q g = absurd (false≢true p)
cmp_field k (bool_scalar b) (bool_scalar c) us vs p f q g = refl
cmp_field int_kind (bool_scalar b) (text_scalar u) us vs p f q g = absurd (false≢true p)
cmp_field bool_kind (bool_scalar b) (text_scalar u) us vs p f q g = absurd (false≢true q)
cmp_field text_kind (bool_scalar b) (text_scalar u) us vs p f q g = absurd (false≢true p)
cmp_field int_kind (text_scalar t) (int_scalar w) us vs p f q g = absurd (false≢true p)
cmp_field bool_kind (text_scalar t) (int_scalar w) us vs p f q g = absurd (false≢true p)
cmp_field text_kind (text_scalar t) (int_scalar w) us vs p f q g = absurd (false≢true q)
cmp_field int_kind (text_scalar t) (bool_scalar c) us vs p f q g = absurd (false≢true p)
cmp_field bool_kind (text_scalar t) (bool_scalar c) us vs p f q g = absurd (false≢true p)
cmp_field text_kind (text_scalar t) (bool_scalar c) us vs p f q g = absurd (false≢true q)
cmp_field k (text_scalar t) (text_scalar u) us vs p f q g = cmp_texts t u us vs (no_zero t f) (no_zero u g)

-- the parts of a tuple of a schema
pub record Headed (a : Attr) (attrs : List Attr) (s : Scalar) (rest : List Scalar) : Type 0 where
  pub kind : is_kind a.kind s ≡ true
  pub valid : is_scalar s ≡ true
  pub tail : is_tuple attrs rest ≡ true

pub headed : (a : Attr) (attrs : List Attr) (s : Scalar) (rest : List Scalar) → is_tuple (a ∷ attrs) (s ∷ rest) ≡ true → Headed a attrs s rest
headed a attrs s rest h =
    let p = and_parts (is_kind a.kind s && is_scalar s) (is_tuple attrs rest) h in
    let q = and_parts (is_kind a.kind s) (is_scalar s) p.0 in
    record { kind = q.0; valid = q.1; tail = p.1 }

-- whole rows, and what follows
pub cmp_rows : (schema : List Attr) (xs ys : List Scalar) (us vs : List ℕ) → is_tuple schema xs ≡ true → is_tuple schema ys ≡ true
    → slice_cmp nat_cmp (row_of xs ++ us) (row_of ys ++ vs) ≡ ordering_then (tuple_cmp xs ys) (slice_cmp nat_cmp us vs)
cmp_rows [] [] [] us vs h g = refl
cmp_rows [] [] (y ∷ ys) us vs h g = absurd (false≢true g)
cmp_rows [] (x ∷ xs) ys us vs h g = absurd (false≢true h)
cmp_rows (a ∷ attrs) [] ys us vs h g = absurd (false≢true h)
cmp_rows (a ∷ attrs) (x ∷ xs) [] us vs h g = absurd (false≢true g)
cmp_rows (a ∷ attrs) (x ∷ xs) (y ∷ ys) us vs h g =
    let p = headed a attrs x xs h in
    let q = headed a attrs y ys g in
    (λ i. slice_cmp nat_cmp (append_assoc (field_bytes x) (row_of xs) us i) (append_assoc (field_bytes y) (row_of ys) vs i))
    ∙ cmp_field a.kind x y (row_of xs ++ us) (row_of ys ++ vs) p.kind p.valid q.kind q.valid
    ∙ ap (ordering_then (scalar_cmp x y)) (cmp_rows attrs xs ys us vs p.tail q.tail)
    ∙ sym (then_assoc (scalar_cmp x y) (tuple_cmp xs ys) (slice_cmp nat_cmp us vs))

then_Equal : (o : Ordering) → ordering_then o Equal ≡ o
then_Equal Less = refl
then_Equal Equal = refl
then_Equal Greater = refl

cmp_whole : (schema : List Attr) (xs ys : List Scalar) → is_tuple schema xs ≡ true → is_tuple schema ys ≡ true → slice_cmp nat_cmp (row_of xs) (row_of ys) ≡ tuple_cmp xs ys
cmp_whole schema xs ys h g =
    (λ i. slice_cmp nat_cmp (sym (append-nil (row_of xs)) i) (sym (append-nil (row_of ys)) i))
    ∙ cmp_rows schema xs ys [] [] h g
    ∙ then_Equal (tuple_cmp xs ys)

-- ---- from orderings to the tests

then_lt : (o p : Ordering) → is_lt (ordering_then o p) ≡ (is_lt o || (not (is_gt o) && is_lt p))
then_lt Less p = refl
then_lt Equal p = refl
then_lt Greater p = refl

int_less : (v w : ℤ) → is_lt (int_cmp v w) ≡ int_lt v w
int_less v w = by (int_lt v w) (int_lt w v)
  where
    by : (b c : Bool) → is_lt (cond b Less (cond c Greater Equal)) ≡ b
    by true c = refl
    by false true = refl
    by false false = refl

reverse_gt : (o : Ordering) → is_lt (ordering_reverse o) ≡ is_gt o
reverse_gt Less = refl
reverse_gt Equal = refl
reverse_gt Greater = refl

-- an int that is less is not greater
int_gt : (v w : ℤ) → is_gt (int_cmp v w) ≡ int_lt w v
int_gt v w = sym (ap is_lt (int_cmp_total.antisymm w v) ∙ reverse_gt (int_cmp v w)) ∙ int_less w v

bytes_gt : (t u : List ℕ) → is_gt (slice_cmp nat_cmp t u) ≡ is_below u t
unfolding is_below
bytes_gt t u = sym (ap is_lt (nat_list_cmp_total.antisymm u t) ∙ reverse_gt (slice_cmp nat_cmp t u))

bytes_less : (t u : List ℕ) → is_lt (slice_cmp nat_cmp t u) ≡ is_below t u
unfolding is_below
bytes_less t u = refl

scalar_lt : (a b : Scalar) → is_lt (scalar_cmp a b) ≡ scalar_less a b
scalar_lt (int_scalar v) (int_scalar w) = int_less v w
scalar_lt (bool_scalar true) (bool_scalar true) = refl
scalar_lt (bool_scalar true) (bool_scalar false) = refl
scalar_lt (bool_scalar false) (bool_scalar true) = refl
scalar_lt (bool_scalar false) (bool_scalar false) = refl
scalar_lt (text_scalar t) (text_scalar u) = bytes_less t u
scalar_lt (int_scalar v) (bool_scalar c) = refl
scalar_lt (int_scalar v) (text_scalar u) = refl
scalar_lt (bool_scalar b) (int_scalar w) = refl
scalar_lt (bool_scalar b) (text_scalar u) = refl
scalar_lt (text_scalar t) (int_scalar w) = refl
scalar_lt (text_scalar t) (bool_scalar c) = refl

scalar_gt : (a b : Scalar) → is_gt (scalar_cmp a b) ≡ scalar_less b a
scalar_gt (int_scalar v) (int_scalar w) = int_gt v w
scalar_gt (bool_scalar true) (bool_scalar true) = refl
scalar_gt (bool_scalar true) (bool_scalar false) = refl
scalar_gt (bool_scalar false) (bool_scalar true) = refl
scalar_gt (bool_scalar false) (bool_scalar false) = refl
scalar_gt (text_scalar t) (text_scalar u) = bytes_gt t u
scalar_gt (int_scalar v) (bool_scalar c) = refl
scalar_gt (int_scalar v) (text_scalar u) = refl
scalar_gt (bool_scalar b) (int_scalar w) = refl
scalar_gt (bool_scalar b) (text_scalar u) = refl
scalar_gt (text_scalar t) (int_scalar w) = refl
scalar_gt (text_scalar t) (bool_scalar c) = refl

tuple_lt : (schema : List Attr) (xs ys : List Scalar) → is_tuple schema xs ≡ true → is_tuple schema ys ≡ true → is_lt (tuple_cmp xs ys) ≡ tuple_less schema xs ys
tuple_lt [] [] [] h g = refl
tuple_lt [] [] (y ∷ ys) h g = refl
tuple_lt [] (x ∷ xs) ys h g = absurd (false≢true h)
tuple_lt (a ∷ attrs) [] ys h g = absurd (false≢true h)
tuple_lt (a ∷ attrs) (x ∷ xs) [] h g = absurd (false≢true g)
tuple_lt (a ∷ attrs) (x ∷ xs) (y ∷ ys) h g =
    then_lt (scalar_cmp x y) (tuple_cmp xs ys)
    ∙ (λ i. scalar_lt x y i || (not (scalar_gt x y i) && tuple_lt attrs xs ys (headed a attrs x xs h).tail (headed a attrs y ys g).tail i))

-- byte order of rows is the order of tuples
pub row_order : (schema : List Attr) (xs ys : List Scalar) → is_tuple schema xs ≡ true → is_tuple schema ys ≡ true → is_below (row_of xs) (row_of ys) ≡ tuple_less schema xs ys
row_order schema xs ys h g = sym (bytes_less (row_of xs) (row_of ys)) ∙ ap is_lt (cmp_whole schema xs ys h g) ∙ tuple_lt schema xs ys h g

-- ---- rows that tie

then_both : (o p : Ordering) → ordering_then o p ≡ Equal → (o ≡ Equal) × (p ≡ Equal)
then_both Less p e = cc
then_both Equal p e = (refl, e)
then_both Greater p e = cc

int_tie : (v w : ℤ) → int_cmp v w ≡ Equal → v ≡ w
int_tie v w e = int_cmp-IsAntisymmetric v w e

scalar_tie : (k : Kind) (a b : Scalar) → is_kind k a ≡ true → is_kind k b ≡ true → scalar_cmp a b ≡ Equal → a ≡ b
scalar_tie k (int_scalar v) (int_scalar w) p q e = ap int_scalar (int_tie v w e)
scalar_tie k (bool_scalar true) (bool_scalar true) p q e = refl
scalar_tie k (bool_scalar true) (bool_scalar false) p q e = cc
scalar_tie k (bool_scalar false) (bool_scalar true) p q e = cc
scalar_tie k (bool_scalar false) (bool_scalar false) p q e = refl
scalar_tie k (text_scalar t) (text_scalar u) p q e = ap text_scalar (slice_cmp-IsAntisymmetric nat_cmp-IsAntisymmetric t u e)
scalar_tie int_kind (int_scalar v) (bool_scalar c) p q e = absurd (false≢true q)
scalar_tie bool_kind (int_scalar v) (bool_scalar c) p q e = absurd (false≢true p)
scalar_tie text_kind (int_scalar v) (bool_scalar c) p q e = absurd (false≢true p)
scalar_tie int_kind (int_scalar v) (text_scalar u) p q e = absurd (false≢true q)
scalar_tie bool_kind (int_scalar v) (text_scalar u) p q e = absurd (false≢true p)
scalar_tie text_kind (int_scalar v) (text_scalar u) p q e = absurd (false≢true p)
scalar_tie int_kind (bool_scalar b) (int_scalar w) p q e = absurd (false≢true p)
scalar_tie bool_kind (bool_scalar b) (int_scalar w) p q e = absurd (false≢true q)
scalar_tie text_kind (bool_scalar b) (int_scalar w) p q e = absurd (false≢true p)
scalar_tie int_kind (bool_scalar b) (text_scalar u) p q e = absurd (false≢true p)
scalar_tie bool_kind (bool_scalar b) (text_scalar u) p q e = absurd (false≢true q)
scalar_tie text_kind (bool_scalar b) (text_scalar u) p q e = absurd (false≢true p)
scalar_tie int_kind (text_scalar t) (int_scalar w) p q e = absurd (false≢true p)
scalar_tie bool_kind (text_scalar t) (int_scalar w) p q e = absurd (false≢true p)
scalar_tie text_kind (text_scalar t) (int_scalar w) p q e = absurd (false≢true q)
scalar_tie int_kind (text_scalar t) (bool_scalar c) p q e = absurd (false≢true p)
scalar_tie bool_kind (text_scalar t) (bool_scalar c) p q e = absurd (false≢true p)
scalar_tie text_kind (text_scalar t) (bool_scalar c) p q e = absurd (false≢true q)

tuple_tie : (schema : List Attr) (xs ys : List Scalar) → is_tuple schema xs ≡ true → is_tuple schema ys ≡ true → tuple_cmp xs ys ≡ Equal → xs ≡ ys
tuple_tie [] [] [] h g e = refl
tuple_tie [] [] (y ∷ ys) h g e = absurd (false≢true g)
tuple_tie [] (x ∷ xs) ys h g e = absurd (false≢true h)
tuple_tie (a ∷ attrs) [] ys h g e = absurd (false≢true h)
tuple_tie (a ∷ attrs) (x ∷ xs) [] h g e = absurd (false≢true g)
tuple_tie (a ∷ attrs) (x ∷ xs) (y ∷ ys) h g e =
    let p = headed a attrs x xs h in
    let q = headed a attrs y ys g in
    let parts = then_both (scalar_cmp x y) (tuple_cmp xs ys) e in
    λ i. scalar_tie a.kind x y p.kind q.kind parts.0 i ∷ tuple_tie attrs xs ys p.tail q.tail parts.1 i

itself : (bytes : List ℕ) → slice_cmp nat_cmp bytes bytes ≡ Equal
unfolding is_same
itself bytes = equal_of (slice_cmp nat_cmp bytes bytes) (same_itself bytes)
  where
    equal_of : (o : Ordering) → is_eq o ≡ true → o ≡ Equal
    equal_of Less e = cc
    equal_of Equal e = refl
    equal_of Greater e = cc

nothing_left : (us : List ℕ) → slice_cmp nat_cmp us [] ≡ Equal → us ≡ []
nothing_left [] e = refl
nothing_left (u ∷ us) e = cc

-- a row that begins as another is that row: no row is a prefix of another, and the tuple is one
pub no_prefix : (schema : List Attr) (xs ys : List Scalar) (more : List ℕ) → is_tuple schema xs ≡ true → is_tuple schema ys ≡ true → row_of xs ++ more ≡ row_of ys → (xs ≡ ys) × (more ≡ [])
no_prefix schema xs ys more h g e =
    let tie : ordering_then (tuple_cmp xs ys) (slice_cmp nat_cmp more []) ≡ Equal =
    sym (cmp_rows schema xs ys more [] h g) ∙ ap (λ (bytes : List ℕ). slice_cmp nat_cmp bytes (row_of ys ++ [])) (e ∙ sym (append-nil (row_of ys))) ∙ itself (row_of ys ++ []) in
    let parts = then_both (tuple_cmp xs ys) (slice_cmp nat_cmp more []) tie in
    (tuple_tie schema xs ys h g parts.0, nothing_left more parts.1)

-- within a schema a row has one tuple
pub row_injective : (schema : List Attr) (xs ys : List Scalar) → is_tuple schema xs ≡ true → is_tuple schema ys ≡ true → row_of xs ≡ row_of ys → xs ≡ ys
row_injective schema xs ys h g e = (no_prefix schema xs ys [] h g (append-nil (row_of xs) ∙ e)).0
