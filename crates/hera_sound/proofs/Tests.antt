-- What the tests of typing say where they hold.
use Rattle.std.proofs.Common.{◌≡◌, ℕ, ◌<◌, ◌+◌, List, [], ◌∷◌, length, refl, ap, ◌∙◌, arith, Bool, true, false}
use Rattle.std.specs.Prelude.{Result, Ok, Err, Option, Some, None, ◌&&◌, cond, is_some}
use Rattle.std.specs.List.{position_from}
use Rattle.hera_sets.specs.Rows.{is_same}
use Rattle.hera_sets.proofs.Order.{same_true}
use Rattle.hera_meaning.specs.declared.scalars.Kind.{Kind}
use Rattle.hera_meaning.specs.declared.scalars.Kind.TheVariants.{Int as int_kind, Bool as bool_kind, Text as text_kind}
use Rattle.hera_meaning.specs.declared.schemas.Attr.{Attr}
use Rattle.hera_meaning.specs.declared.trees.Shape.{Shape}
use Rattle.hera_meaning.specs.declared.trees.Shape.TheVariants.{Int as int, Bool as bool, Text as text, Tuple as tuple, Rel as rel, Delta as delta}
use Rattle.hera_meaning.specs.Scalars.{is_same_kind}
use Rattle.hera_meaning.specs.Forms.{of_scalar, form_of}
use Rattle.hera_rules.specs.declared.fault.TypeFault.{TypeFault}
use Rattle.hera_rules.specs.Rules.{given, unless, either, is_int, is_bool, is_text, is_delta, is_rel, is_scalar, scalar_kind}
use Rattle.hera_rules.specs.Same.{same_attr, same_schema, same_shape, same_shapes, same_kinds}
use Rattle.hera_rules.specs.Checked.{and_then}

pub given_true : {A : Type 0} (b : Bool) (f : TypeFault) (a r : A) → given b f a ≡ Ok r → (b ≡ true) × (a ≡ r)
given_true true f a r e = (refl, cc)
given_true false f a r e = absurd cc

pub unless_none : {A : Type 0} (o : Option TypeFault) (x : Result A TypeFault) (r : A) → unless o x ≡ Ok r → (o ≡ None) × (x ≡ Ok r)
unless_none None x r e = (refl, e)
unless_none (Some f) x r e = absurd cc

pub either_none : {A : Type 0} (o q : Option A) → either o q ≡ None → (o ≡ None) × (q ≡ None)
either_none None q e = (refl, e)
either_none (Some a) q e = absurd cc

-- what is first done is done
pub then_ok : {A B : Type 0} (x : Result A TypeFault) (go : A → Result B TypeFault) (r : B) → and_then x go ≡ Ok r → (a : A) × (x ≡ Ok a) × (go a ≡ Ok r)
then_ok (Ok a) go r e = (a, refl, e)
then_ok (Err f) go r e = absurd cc

-- a choice that gives Ok by its second part, and one that does by its first
pub cond_second : {A : Type 0} (b : Bool) (f : TypeFault) (x : Result A TypeFault) (r : A) → cond b (Err f) x ≡ Ok r → (b ≡ false) × (x ≡ Ok r)
cond_second true f x r e = absurd cc
cond_second false f x r e = (refl, e)

pub cond_first : {A : Type 0} (b : Bool) (f : TypeFault) (x : Result A TypeFault) (r : A) → cond b x (Err f) ≡ Ok r → (b ≡ true) × (x ≡ Ok r)
cond_first true f x r e = (refl, e)
cond_first false f x r e = absurd cc

pub and_true : (a b : Bool) → (a && b) ≡ true → (a ≡ true) × (b ≡ true)
and_true true b e = (refl, e)
and_true false b e = absurd cc

pub both_true : (a b : Bool) → a ≡ true → b ≡ true → (a && b) ≡ true
both_true true b e h = h
both_true false b e h = absurd cc

pub some_is : {A : Type 0} (o : Option A) → is_some o ≡ true → (a : A) × (o ≡ Some a)
some_is (Some a) e = (a, refl)
some_is None e = absurd cc

-- ---- types

pub is_int-true : (t : Shape) → is_int t ≡ true → t ≡ int
is_int-true int e = refl
is_int-true _ e = absurd cc

pub is_bool-true : (t : Shape) → is_bool t ≡ true → t ≡ bool
is_bool-true bool e = refl
is_bool-true _ e = absurd cc

pub is_text-true : (t : Shape) → is_text t ≡ true → t ≡ text
is_text-true text e = refl
is_text-true _ e = absurd cc

pub is_delta-true : (t : Shape) → is_delta t ≡ true → t ≡ delta
is_delta-true delta e = refl
is_delta-true _ e = absurd cc

pub is_rel-true : (t : Shape) → is_rel t ≡ true → (s : List Attr) × (t ≡ rel s)
is_rel-true (rel s) e = (s, refl)
is_rel-true _ e = absurd cc

pub is_scalar-true : (t : Shape) → is_scalar t ≡ true → form_of t ≡ of_scalar (scalar_kind t)
is_scalar-true int e = refl
is_scalar-true bool e = refl
is_scalar-true text e = refl
is_scalar-true _ e = absurd cc

pub same_kind-true : (k l : Kind) → is_same_kind k l ≡ true → k ≡ l
same_kind-true int_kind int_kind e = refl
same_kind-true bool_kind bool_kind e = refl
same_kind-true text_kind text_kind e = refl
same_kind-true _ _ e = absurd cc

pub same_kinds-true : (ks ls : List Kind) → same_kinds ks ls ≡ true → ks ≡ ls
same_kinds-true [] [] e = refl
same_kinds-true [] (l ∷ ls) e = absurd cc
same_kinds-true (k ∷ ks) [] e = absurd cc
same_kinds-true (k ∷ ks) (l ∷ ls) e =
    let h = and_true (is_same_kind k l) (same_kinds ks ls) e in ap (λ x. x ∷ ks) (same_kind-true k l h.0) ∙ ap (λ xs. l ∷ xs) (same_kinds-true ks ls h.1)

pub same_attr-true : (a b : Attr) → same_attr a b ≡ true → a ≡ b
same_attr-true a b e =
    let h = and_true (is_same a.name b.name) (is_same_kind a.kind b.kind) e in
    let make : List ℕ → Kind → Attr = λ n k. record { name = n; kind = k } in
    ap (λ n. make n a.kind) (same_true a.name b.name h.0) ∙ ap (λ k. make b.name k) (same_kind-true a.kind b.kind h.1)

pub same_schema-true : (s t : List Attr) → same_schema s t ≡ true → s ≡ t
same_schema-true [] [] e = refl
same_schema-true [] (b ∷ t) e = absurd cc
same_schema-true (a ∷ s) [] e = absurd cc
same_schema-true (a ∷ s) (b ∷ t) e =
    let h = and_true (same_attr a b) (same_schema s t) e in ap (λ x. x ∷ s) (same_attr-true a b h.0) ∙ ap (λ xs. b ∷ xs) (same_schema-true s t h.1)

pub same_shape-true : (s t : Shape) → same_shape s t ≡ true → s ≡ t
same_shape-true int int e = refl
same_shape-true bool bool e = refl
same_shape-true text text e = refl
same_shape-true delta delta e = refl
same_shape-true (tuple a) (tuple b) e = ap (λ s. tuple s) (same_schema-true a b e)
same_shape-true (rel a) (rel b) e = ap (λ s. rel s) (same_schema-true a b e)
same_shape-true _ _ e = absurd cc

pub same_shapes-true : (ss ts : List Shape) → same_shapes ss ts ≡ true → ss ≡ ts
same_shapes-true [] [] e = refl
same_shapes-true [] (t ∷ ts) e = absurd cc
same_shapes-true (s ∷ ss) [] e = absurd cc
same_shapes-true (s ∷ ss) (t ∷ ts) e =
    let h = and_true (same_shape s t) (same_shapes ss ts) e in ap (λ x. x ∷ ss) (same_shape-true s t h.0) ∙ ap (λ xs. t ∷ xs) (same_shapes-true ss ts h.1)

-- ---- places

-- a place that is found is one of the list
pub found_from : {A : Type 0} (p : A → Bool) (i : ℕ) (xs : List A) (k : ℕ) → position_from p i xs ≡ Some k → k < i + length xs
found_from p i [] k e = absurd cc
found_from p i (x ∷ xs) k e = by (p x) e (λ h. found_from p (i + 1) xs k h)
  where
    by : (b : Bool) → cond b (Some i) (position_from p (i + 1) xs) ≡ Some k → (position_from p (i + 1) xs ≡ Some k → k < (i + 1) + length xs) → k < i + length (x ∷ xs)
    by true e ih = let h : i ≡ k = cc in omega (arith, h)
    by false e ih = let h = ih e in omega (arith, h)

pub found_within : {A : Type 0} (p : A → Bool) (xs : List A) (k : ℕ) → position_from p 0 xs ≡ Some k → k < length xs
found_within p xs k e = let h = found_from p 0 xs k e in omega (arith, h)
