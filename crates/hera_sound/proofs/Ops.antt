-- Which operands the operations of joints and pairs take.
use Rattle.std.proofs.Common.{◌≡◌, ℕ, List, [], ◌∷◌, refl, ap, ◌∙◌, true, inl, inr, sym, subst, Bool, false}
use Rattle.std.specs.Prelude.{Ok, ◌&&◌, ◌||◌}
use Rattle.hera_meaning.specs.declared.scalars.Kind.{Kind}
use Rattle.hera_meaning.specs.declared.schemas.Attr.{Attr}
use Rattle.hera_meaning.specs.declared.schemas.RelDecl.{RelDecl}
use Rattle.hera_meaning.specs.declared.trees.Op.{Op}
use Rattle.hera_meaning.specs.declared.trees.Op.TheVariants.{Add, Sub, Mul, Div, Rem, Eq, Ne, Lt, Le, Gt, Ge, In, Union, Minus, Inter, Smash, Merge}
use Rattle.hera_meaning.specs.declared.trees.Shape.{Shape}
use Rattle.hera_meaning.specs.declared.trees.Shape.TheVariants.{Int as int, Bool as bool, Text as text, Tuple as tuple, Rel as rel, Delta as delta}
use Rattle.hera_meaning.specs.Forms.{Form, of_tuple, of_table, of_delta, int_form, bool_form, text_form, both, form_of, kinds_of, OpIsOf}
use Rattle.hera_rules.specs.declared.words.Joint.{Joint}
use Rattle.hera_rules.specs.declared.words.Joint.TheVariants.{When as by_when, And as by_and, Or as by_or, Arithmetic, Equality, Order, Member, Deltas}
use Rattle.hera_rules.specs.declared.fault.TypeFault.TheVariants.{Mismatch as mismatch}
use Rattle.hera_rules.specs.Same.{same_shape}
use Rattle.hera_rules.specs.Rules.{is_int, is_bool, is_text, is_delta, is_member, joint_row, op_in}
use Rattle.hera_sound.proofs.Tests.{given_true, and_true, is_int-true, is_text-true, is_delta-true, same_shape-true, same_schema-true}
use Rattle.hera_sound.proofs.Made.{is_arithmetic, is_equality, is_order, is_of_deltas, is_of_sets, IsJoint, chains, level_of}
use Rattle.hera_sound.proofs.Fine.{IsGood}

arithmetic_op : (rels : List RelDecl) (op : Op) → is_arithmetic op ≡ true → OpIsOf rels op (both int_form) int_form
arithmetic_op rels Add e = record { good = refl; forms = (refl, refl) }
arithmetic_op rels Sub e = record { good = refl; forms = (refl, refl) }
arithmetic_op rels Mul e = record { good = refl; forms = (refl, refl) }
arithmetic_op rels Div e = record { good = refl; forms = (refl, refl) }
arithmetic_op rels Rem e = record { good = refl; forms = (refl, refl) }
arithmetic_op rels _ e = absurd cc

equality_op : (rels : List RelDecl) (op : Op) (g : Form) → is_equality op ≡ true → OpIsOf rels op (both g) bool_form
equality_op rels Eq g e = record { good = refl; forms = (g, refl, refl) }
equality_op rels Ne g e = record { good = refl; forms = (g, refl, refl) }
equality_op rels _ g e = absurd cc

int_order : (rels : List RelDecl) (op : Op) → is_order op ≡ true → OpIsOf rels op (both int_form) bool_form
int_order rels Lt e = record { good = refl; forms = (inl refl, refl) }
int_order rels Le e = record { good = refl; forms = (inl refl, refl) }
int_order rels Gt e = record { good = refl; forms = (inl refl, refl) }
int_order rels Ge e = record { good = refl; forms = (inl refl, refl) }
int_order rels _ e = absurd cc

text_order : (rels : List RelDecl) (op : Op) → is_order op ≡ true → OpIsOf rels op (both text_form) bool_form
text_order rels Lt e = record { good = refl; forms = (inr refl, refl) }
text_order rels Le e = record { good = refl; forms = (inr refl, refl) }
text_order rels Gt e = record { good = refl; forms = (inr refl, refl) }
text_order rels Ge e = record { good = refl; forms = (inr refl, refl) }
text_order rels _ e = absurd cc

deltas_op : (rels : List RelDecl) (op : Op) → is_of_deltas op ≡ true → OpIsOf rels op (both of_delta) of_delta
deltas_op rels Smash e = record { good = refl; forms = (refl, refl) }
deltas_op rels Merge e = record { good = refl; forms = (refl, refl) }
deltas_op rels _ e = absurd cc

pub sets_op : (rels : List RelDecl) (op : Op) (ks : List Kind) → is_of_sets op ≡ true → OpIsOf rels op (both (of_table ks)) (of_table ks)
sets_op rels Union ks e = record { good = refl; forms = (ks, refl, refl) }
sets_op rels Minus ks e = record { good = refl; forms = (ks, refl, refl) }
sets_op rels Inter ks e = record { good = refl; forms = (ks, refl, refl) }
sets_op rels _ ks e = absurd cc

-- two types that are these
pub two_types : (s t s' t' : Shape) → s ≡ s' → t ≡ t' → (form_of s ∷ form_of t ∷ []) ≡ (form_of s' ∷ form_of t' ∷ [])
two_types s t s' t' e f = ap (λ (u : Shape). form_of u ∷ form_of t ∷ []) e ∙ ap (λ (u : Shape). form_of s' ∷ form_of u ∷ []) f

-- operands and a result of these forms
pub op_of : (rels : List RelDecl) (op : Op) (fs gs : List Form) (t r : Shape) → fs ≡ gs → t ≡ r → OpIsOf rels op gs (form_of t) → OpIsOf rels op fs (form_of r)
op_of rels op fs gs t r e f h = subst (λ (u : Shape). OpIsOf rels op fs (form_of u)) f (subst (λ (hs : List Form). OpIsOf rels op hs (form_of t)) (sym e) h)

member_types : (s t : Shape) → is_member s t ≡ true → (a : List Attr) × (s ≡ tuple a) × (t ≡ rel a)
member_types (tuple a) (rel b) e = (a, refl, ap (λ (z : List Attr). rel z) (sym (same_schema-true a b e)))
member_types _ _ e = absurd cc

either_true : (a b : Bool) → (a || b) ≡ true → (a ≡ false) → b ≡ true
either_true true b e f = absurd cc
either_true false b e f = e

-- the operation of an operator takes its operands
pub link_op : (rels : List RelDecl) (j : Joint) (at : ℕ) (s t r : Shape) → IsJoint j → level_of j ≡ chains → joint_row j at s t ≡ Ok r → OpIsOf rels (op_in j) (form_of s ∷ form_of t ∷ []) (form_of r)
link_op rels by_when at s t r k l e = absurd cc
link_op rels by_and at s t r k l e = absurd cc
link_op rels by_or at s t r k l e = absurd cc
link_op rels (Arithmetic op) at s t r k l e =
    let g = given_true (is_int s && is_int t) (mismatch at) int r e in
    let b = and_true (is_int s) (is_int t) g.0 in
    op_of rels op (form_of s ∷ form_of t ∷ []) (both int_form) int r (two_types s t int int (is_int-true s b.0) (is_int-true t b.1)) g.1 (arithmetic_op rels op k)
link_op rels (Equality op) at s t r k l e =
    let g = given_true (same_shape s t) (mismatch at) bool r e in
    op_of rels op (form_of s ∷ form_of t ∷ []) (both (form_of t)) bool r (two_types s t t t (same_shape-true s t g.0) refl) g.1 (equality_op rels op (form_of t) k)
link_op rels (Order op) at s t r k l e =
    let g = given_true ((is_int s && is_int t) || (is_text s && is_text t)) (mismatch at) bool r e in
    by (is_int s && is_int t) refl g.0 g.1
  where
    by : (b : Bool) → (is_int s && is_int t) ≡ b → (b || (is_text s && is_text t)) ≡ true → bool ≡ r → OpIsOf rels op (form_of s ∷ form_of t ∷ []) (form_of r)
    by true h g f =
        let b = and_true (is_int s) (is_int t) h in
        op_of rels op (form_of s ∷ form_of t ∷ []) (both int_form) bool r (two_types s t int int (is_int-true s b.0) (is_int-true t b.1)) f (int_order rels op k)
    by false h g f =
        let b = and_true (is_text s) (is_text t) g in
        op_of rels op (form_of s ∷ form_of t ∷ []) (both text_form) bool r (two_types s t text text (is_text-true s b.0) (is_text-true t b.1)) f (text_order rels op k)
link_op rels Member at s t r k l e =
    let g = given_true (is_member s t) (mismatch at) bool r e in
    let m = member_types s t g.0 in
    op_of rels In (form_of s ∷ form_of t ∷ []) (of_tuple (kinds_of m.0) ∷ of_table (kinds_of m.0) ∷ []) bool r (two_types s t (tuple m.0) (rel m.0) m.1 m.2) g.1
    (record { good = refl; forms = (kinds_of m.0, refl, refl) })
link_op rels (Deltas op) at s t r k l e =
    let g = given_true (is_delta s && is_delta t) (mismatch at) delta r e in
    let b = and_true (is_delta s) (is_delta t) g.0 in
    op_of rels op (form_of s ∷ form_of t ∷ []) (both of_delta) delta r (two_types s t delta delta (is_delta-true s b.0) (is_delta-true t b.1)) g.1 (deltas_op rels op k)

-- the type of a chain is good where that of its first operand is
pub joint_good : (j : Joint) (at : ℕ) (s t r : Shape) → joint_row j at s t ≡ Ok r → IsGood s → IsGood r
joint_good by_when at s t r e g = let h = given_true (is_delta t) (mismatch at) s r e in subst (λ (u : Shape). IsGood u) h.1 g
joint_good by_and at s t r e g = let h = given_true (is_bool s && is_bool t) (mismatch at) bool r e in subst (λ (u : Shape). IsGood u) h.1 tt
joint_good by_or at s t r e g = let h = given_true (is_bool s && is_bool t) (mismatch at) bool r e in subst (λ (u : Shape). IsGood u) h.1 tt
joint_good (Arithmetic op) at s t r e g = let h = given_true (is_int s && is_int t) (mismatch at) int r e in subst (λ (u : Shape). IsGood u) h.1 tt
joint_good (Equality op) at s t r e g = let h = given_true (same_shape s t) (mismatch at) bool r e in subst (λ (u : Shape). IsGood u) h.1 tt
joint_good (Order op) at s t r e g = let h = given_true ((is_int s && is_int t) || (is_text s && is_text t)) (mismatch at) bool r e in subst (λ (u : Shape). IsGood u) h.1 tt
joint_good Member at s t r e g = let h = given_true (is_member s t) (mismatch at) bool r e in subst (λ (u : Shape). IsGood u) h.1 tt
joint_good (Deltas op) at s t r e g = let h = given_true (is_delta s && is_delta t) (mismatch at) delta r e in subst (λ (u : Shape). IsGood u) h.1 tt
