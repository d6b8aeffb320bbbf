-- Each row of the table of typing for phrases of no, one or two operands keeps what is promised.
use Rattle.std.proofs.Common.{◌≡◌, ℕ, ◌<◌, ◌≤◌, ◌+◌, List, [], ◌∷◌, ◌++◌, length, refl, sym, ap, ◌∙◌, subst, arith, Bool, true, false}
use Rattle.std.specs.Prelude.{Result, Ok, Err, Option, Some, None, cond, map, nat_lt}
use Rattle.std.specs.List.{list_all}
use Rattle.std.proofs.lemmas.Bool.{ltb-true}
use Rattle.hera_sets.specs.Rows.{is_same}
use Rattle.hera_meaning.specs.declared.scalars.Kind.{Kind}
use Rattle.hera_meaning.specs.declared.scalars.Kind.TheVariants.{Int as int_kind}
use Rattle.hera_meaning.specs.declared.scalars.Sign.{Sign}
use Rattle.hera_meaning.specs.declared.scalars.Sign.TheVariants.{Plus, Minus}
use Rattle.hera_meaning.specs.declared.scalars.Scalar.TheVariants.{Int as int_scalar, Bool as bool_scalar, Text as text_scalar}
use Rattle.hera_meaning.specs.declared.schemas.Attr.{Attr}
use Rattle.hera_meaning.specs.declared.schemas.RelDecl.{RelDecl}
use Rattle.hera_meaning.specs.declared.trees.Const.{Const}
use Rattle.hera_meaning.specs.declared.trees.Const.TheVariants.{Scalar as scalar, EmptyDelta as empty_delta, FailDelta as fail_delta}
use Rattle.hera_meaning.specs.declared.trees.Op.{Op}
use Rattle.hera_meaning.specs.declared.trees.Op.TheVariants.{Neg, Not, Field as field_op, Project, Join as join_op, Group, Count, Empty, Sum as sum_op, Min as min_op, Max as max_op, Bulk, IsFail}
use Rattle.hera_meaning.specs.declared.trees.Shape.{Shape}
use Rattle.hera_meaning.specs.declared.trees.Shape.TheVariants.{Int as int, Bool as bool, Tuple as tuple, Rel as rel, Delta as delta}
use Rattle.hera_meaning.specs.Schemas.{place_named}
use Rattle.hera_meaning.specs.Scalars.{is_same_kind}
use Rattle.hera_meaning.specs.Relations.{lacking}
use Rattle.hera_meaning.specs.Fits.{is_place, is_good_agg}
use Rattle.hera_meaning.specs.Deltas.{schema_of}
use Rattle.hera_meaning.specs.Forms.{Form, of_tuple, of_table, of_delta, form_of, kinds_of, kind_at, IsWidth, OpIsOf}
use Rattle.hera_meaning.specs.Trees.{Expr, local, relation, prim, select, map_each}
use Rattle.hera_meaning.specs.Sound.{IsOf, IsSlot, is_const, const_form, walks_in}
use Rattle.hera_meaning.specs.Shapes.{IsGathered}
use Rattle.hera_rules.specs.declared.words.Word.{Word}
use Rattle.hera_rules.specs.declared.words.Prefix.{Prefix}
use Rattle.hera_rules.specs.declared.words.Prefix.TheVariants.{Minus as negated, Not as denied}
use Rattle.hera_rules.specs.declared.words.Test.{Test}
use Rattle.hera_rules.specs.declared.words.Test.TheVariants.{Count as count_test, Empty as empty_test, IsFail as is_fail_test}
use Rattle.hera_rules.specs.declared.words.WalkKind.{WalkKind}
use Rattle.hera_rules.specs.declared.words.WalkKind.TheVariants.{Keeping, Mapping}
use Rattle.hera_rules.specs.declared.words.Pair.{Pair}
use Rattle.hera_rules.specs.declared.words.Pair.TheVariants.{Sets, Join as as_join}
use Rattle.hera_rules.specs.declared.words.Fold.{Fold}
use Rattle.hera_rules.specs.declared.words.Fold.TheVariants.{Sum as sum_of, Least, Greatest}
use Rattle.hera_rules.specs.declared.words.Renamed.{Renamed}
use Rattle.hera_rules.specs.declared.words.Aggregate.{Aggregate}
use Rattle.hera_rules.specs.declared.env.Local.{Local}
use Rattle.hera_rules.specs.declared.fault.TypeFault.{TypeFault}
use Rattle.hera_rules.specs.declared.fault.TypeFault.TheVariants.{Repeated as repeated, Mismatch as mismatch, TooMany as too_many}
use Rattle.hera_rules.specs.Environments.{Env, relation_named, local_named, is_taken}
use Rattle.hera_rules.specs.Same.{same_schema}
use Rattle.hera_rules.specs.Rules.{Typing, typing, given, unless, is_int, is_bool, is_delta, is_rel, kind_type, const_type, literal_row, relation_row, value_row, name_row, one_expr, two_exprs, prefix_row, field_type, field_of, over, variable_row, image_row, walk_row, stranger_in, repeat_in, places_in, attrs_in, project_type, kept_names, old_names, old_words, rename_repeat, renamed_attr, rename_of, sets_of, kinds_agree, join_type, pair_row, measured_words, aggs_in, sums_int, group_attrs, result_fault, group_type, test_row, fold_at, fold_in, has_kinds, bulk_of, bulk_row, part_op, part_of, part_row}
use Rattle.hera_sound.proofs.Tests.{given_true, unless_none, cond_second, cond_first, both_true, found_within, is_int-true, is_bool-true, is_delta-true, is_rel-true, same_schema-true, same_kinds-true}
use Rattle.hera_sound.proofs.Schemas.{is_place-below, int_at, stranger_none, places_good, good_aggs, project_schema, kinds_of-attrs_in, rename_schema, kinds_of-renamed, group_schema, kinds_of-group, join_schema, kinds_of-append, width_schema}
use Rattle.hera_sound.proofs.Made.{IsPair}
use Rattle.hera_sound.proofs.Ops.{sets_op, op_of, two_types}
use Rattle.hera_sound.specs.Types_found.{attrs_of_tuple, gathered}
use Rattle.hera_sound.proofs.Fine.{Inside, env_in, scope, gathers_in, IsGood, EnvIsGood, IsVisible, AllVisible, Fine, into, one_prim, two_prim, kind_form, kind_good}

-- ---- literals and names

const_form_is : (c : Const) → const_form c ≡ form_of (const_type c)
const_form_is (scalar (int_scalar z)) = refl
const_form_is (scalar (bool_scalar b)) = refl
const_form_is (scalar (text_scalar t)) = refl
const_form_is empty_delta = refl
const_form_is fail_delta = refl

const_good : (c : Const) → IsGood (const_type c)
const_good (scalar (int_scalar z)) = tt
const_good (scalar (bool_scalar b)) = tt
const_good (scalar (text_scalar t)) = tt
const_good empty_delta = tt
const_good fail_delta = tt

-- the number of a relation that has a name is in range
pub relation_in : (name : List ℕ) (rels : List RelDecl) (r : ℕ) → relation_named name rels ≡ Some r → r < length rels
relation_in name rels r e = found_within (λ (d : RelDecl). is_same name d.name) rels r e

pub found_visible : {g : Env} (x : Inside g) (rs : List ℕ) (name : List ℕ) (ls : List Local) (l : Local) → AllVisible x rs ls → local_named name ls ≡ Some l → IsVisible x rs l
found_visible x rs name [] l v e = absurd cc
found_visible x rs name (k ∷ ls) l v e = by (is_same name k.name) e (λ h. found_visible x rs name ls l v.1 h)
  where
    by : (b : Bool) → cond b (Some k) (local_named name ls) ≡ Some l → (local_named name ls ≡ Some l → IsVisible x rs l) → IsVisible x rs l
    by true e ih = let h : k ≡ l = cc in subst (λ (j : Local). IsVisible x rs j) h v.0
    by false e ih = ih e

-- the local of a walk's variable
pub record IsWalked (var : Word) (n : ℕ) (t : Shape) (l : Local) : Type 0 where
  pub schema : List Attr
  pub over_is : t ≡ rel schema
  pub slot_is : n ≡ l.slot
  pub shape_is : tuple schema ≡ l.shape

pub walked_local : (g : Env) (ls : List Local) (var : Word) (at n : ℕ) (t : Shape) (l : Local) → variable_row g ls var at n t ≡ Ok l → IsWalked var n t l
walked_local g ls var at n t l e = by t (cond_second (is_taken g ls var.name) (repeated var.at) (over var at n t) l e).1
  where
    by : (t : Shape) → over var at n t ≡ Ok l → IsWalked var n t l
    by (rel s) e =
        let make : Local = record { name = var.name; slot = n; shape = tuple s } in
        let h : make ≡ l = cc in record { schema = s; over_is = refl; slot_is = ap (λ (j : Local). j.slot) h; shape_is = ap (λ (j : Local). j.shape) h }
    by _ e = absurd cc

has_kinds_form : (ks : List Kind) (t : Shape) → has_kinds ks t ≡ true → form_of t ≡ of_table ks
has_kinds_form ks (rel s) e = ap (λ (z : List Kind). of_table z) (sym (same_kinds-true ks (kinds_of s) e))
has_kinds_form ks _ e = absurd cc

module _ {g : Env} (x : Inside g) (env : EnvIsGood x) (rs : List ℕ) where
  pub literal_fine : (c : Const) → is_const c ≡ true → Fine x rs [] 10 (literal_row c)
  literal_fine c e = record { of = (e, const_form_is c); good = const_good c; walks = refl; gathers = tt; small = omega arith }

  relation_fine : (at : ℕ) (name : List ℕ) (o : Option ℕ) (r : Typing) → relation_named name (env_in x).relations ≡ o → relation_row (env_in x) at o ≡ Ok r → Fine x rs [] 10 r
  relation_fine at name None r k e = absurd cc
  relation_fine at name (Some i) r k e =
      let h : typing (rel (schema_of (env_in x).relations i)) (relation i) ≡ r = cc in
      let n = relation_in name (env_in x).relations i k in
      into x rs [] 10 (typing (rel (schema_of (env_in x).relations i)) (relation i)) r h (record { of = (n, refl); good = env.schemas i n; walks = refl; gathers = tt; small = omega arith })

  pub name_fine : (ls : List Local) (w : Word) (r : Typing) → AllVisible x rs ls → name_row (env_in x) ls w ≡ Ok r → Fine x rs [] 10 r
  name_fine ls w r v e = by (local_named w.name ls) refl e
    where
      by : (o : Option Local) → local_named w.name ls ≡ o → value_row (env_in x) w o ≡ Ok r → Fine x rs [] 10 r
      by None k e = relation_fine w.at w.name (relation_named w.name (env_in x).relations) r refl e
      by (Some l) k e =
          let h : typing l.shape (local l.slot) ≡ r = cc in
          let f = found_visible x rs w.name ls l v k in
          into x rs [] 10 (typing l.shape (local l.slot)) r h (record { of = (f.readable, f.slot); good = f.good; walks = refl; gathers = tt; small = omega arith })

  -- one operand of a type that a test has shown
  one_given : (ws : List ℕ) (b : ℕ) (v r : Typing) (op : Op) (at : ℕ) (s t : Shape) → v.type ≡ s → OpIsOf (env_in x).relations op (form_of s ∷ []) (form_of t) → IsGood t →
      typing t (prim op (one_expr v.core) at) ≡ r → Fine x rs ws b v → Fine x rs ws (b + 4) r
  one_given ws b v r op at s t e o g h f =
      into x rs ws (b + 4) (typing t (prim op (one_expr v.core) at)) r h
      (one_prim x rs ws b v op at t (subst (λ (u : Shape). OpIsOf (env_in x).relations op (form_of u ∷ []) (form_of t)) (sym e) o) g f)

  pub prefix_fine : (ws : List ℕ) (b : ℕ) (op : Prefix) (at : ℕ) (v r : Typing) → prefix_row op at v ≡ Ok r → Fine x rs ws b v → Fine x rs ws (b + 4) r
  prefix_fine ws b negated at v r e f =
      let g = given_true (is_int v.type) (mismatch at) (typing int (prim Neg (one_expr v.core) at)) r e in
      one_given ws b v r Neg at int int (is_int-true v.type g.0) (record { good = refl; forms = (refl, refl) }) tt g.1 f
  prefix_fine ws b denied at v r e f =
      let g = given_true (is_bool v.type) (mismatch at) (typing bool (prim Not (one_expr v.core) at)) r e in
      one_given ws b v r Not at bool bool (is_bool-true v.type g.0) (record { good = refl; forms = (refl, refl) }) tt g.1 f

  pub test_fine : (ws : List ℕ) (b : ℕ) (test : Test) (at : ℕ) (v r : Typing) → test_row test at v ≡ Ok r → Fine x rs ws b v → Fine x rs ws (b + 4) r
  test_fine ws b count_test at v r e f =
      let g = given_true (is_rel v.type) (mismatch at) (typing int (prim Count (one_expr v.core) at)) r e in
      let k = is_rel-true v.type g.0 in
      one_given ws b v r Count at (rel k.0) int k.1 (record { good = refl; forms = (kinds_of k.0, refl, refl) }) tt g.1 f
  test_fine ws b empty_test at v r e f =
      let g = given_true (is_rel v.type) (mismatch at) (typing bool (prim Empty (one_expr v.core) at)) r e in
      let k = is_rel-true v.type g.0 in
      one_given ws b v r Empty at (rel k.0) bool k.1 (record { good = refl; forms = (kinds_of k.0, refl, refl) }) tt g.1 f
  test_fine ws b is_fail_test at v r e f =
      let g = given_true (is_delta v.type) (mismatch at) (typing bool (prim IsFail (one_expr v.core) at)) r e in
      one_given ws b v r IsFail at delta bool (is_delta-true v.type g.0) (record { good = refl; forms = (refl, refl) }) tt g.1 f

  -- ---- attributes and folds

  pub field_fine : (ws : List ℕ) (b : ℕ) (w : Word) (c : Expr) (t : Shape) (r : Typing) → field_of w c t ≡ Ok r → Fine x rs ws b (typing t c) → Fine x rs ws (b + 4) r
  field_fine ws b w c (tuple s) r e f = by (place_named w.name s) refl e
    where
      by : (o : Option ℕ) → place_named w.name s ≡ o → field_type w c s o ≡ Ok r → Fine x rs ws (b + 4) r
      by None k e = absurd cc
      by (Some i) k e =
          let h : typing (kind_type (kind_at s i)) (prim (field_op s i) (one_expr c) w.at) ≡ r = cc in
          let n = found_within (λ (a : Attr). is_same w.name a.name) s i k in
          one_given ws b (typing (tuple s) c) r (field_op s i) w.at (tuple s) (kind_type (kind_at s i)) refl
          (record { good = is_place-below s i n; forms = (refl, kind_form (kind_at s i)) }) (kind_good (kind_at s i)) h f
  field_fine ws b w c _ r e f = absurd cc

  pub fold_fine : (ws : List ℕ) (b : ℕ) (fold : Fold) (at : ℕ) (w : Word) (c : Expr) (t : Shape) (r : Typing) → fold_in fold at w c t ≡ Ok r → Fine x rs ws b (typing t c) → Fine x rs ws (b + 4) r
  fold_fine ws b fold at w c (rel s) r e f = by fold (place_named w.name s) refl e
    where
      by : (fold : Fold) (o : Option ℕ) → place_named w.name s ≡ o → fold_at fold at c s w.at o ≡ Ok r → Fine x rs ws (b + 4) r
      by fold None k e = absurd cc
      by sum_of (Some i) k e =
          let g = given_true (is_same_kind (kind_at s i) int_kind) (mismatch at) (typing int (prim (sum_op s i) (one_expr c) at)) r e in
          let n = found_within (λ (a : Attr). is_same w.name a.name) s i k in
          one_given ws b (typing (rel s) c) r (sum_op s i) at (rel s) int refl (record { good = int_at s i n g.0; forms = (refl, refl) }) tt g.1 f
      by Least (Some i) k e =
          let h : typing (kind_type (kind_at s i)) (prim (min_op s i) (one_expr c) at) ≡ r = cc in
          let n = found_within (λ (a : Attr). is_same w.name a.name) s i k in
          one_given ws b (typing (rel s) c) r (min_op s i) at (rel s) (kind_type (kind_at s i)) refl
          (record { good = is_place-below s i n; forms = (refl, kind_form (kind_at s i)) }) (kind_good (kind_at s i)) h f
      by Greatest (Some i) k e =
          let h : typing (kind_type (kind_at s i)) (prim (max_op s i) (one_expr c) at) ≡ r = cc in
          let n = found_within (λ (a : Attr). is_same w.name a.name) s i k in
          one_given ws b (typing (rel s) c) r (max_op s i) at (rel s) (kind_type (kind_at s i)) refl
          (record { good = is_place-below s i n; forms = (refl, kind_form (kind_at s i)) }) (kind_good (kind_at s i)) h f
  fold_fine ws b fold at w c _ r e f = absurd cc

  -- ---- set operators

  pub project_fine : (ws : List ℕ) (b at : ℕ) (names : List Word) (c : Expr) (t : Shape) (r : Typing) → 1 ≤ length names → project_type at names c t ≡ Ok r → Fine x rs ws b (typing t c) → Fine x rs ws (b + 4) r
  project_fine ws b at names c (rel s) r n e f =
      let out : Typing = typing (rel (attrs_in s names)) (prim (Project s (places_in s names)) (one_expr c) at) in
      let p = unless_none (stranger_in s names) (unless (repeat_in [] names) (Ok out)) r e in
      let q = unless_none (repeat_in [] names) (Ok out) r p.1 in
      let h : out ≡ r = cc in
      let i = stranger_none s names p.0 in
      let g = project_schema s names f.good n i q.0 in
      let ks = kinds_of-attrs_in s names in
      one_given ws b (typing (rel s) c) r (Project s (places_in s names)) at (rel s) (rel (attrs_in s names)) refl
      (record { good = places_good s names i; forms = ((refl, ap (λ (z : List Kind). of_table z) ks), subst (λ (z : List Kind). IsWidth z) ks (width_schema (attrs_in s names) g)) }) g h f
  project_fine ws b at names c _ r n e f = absurd (let p = unless_none (repeat_in [] names) (Err (mismatch at)) r e in cc)

  pub rename_fine : (ws : List ℕ) (b at : ℕ) (names : List Renamed) (c : Expr) (t : Shape) (r : Typing) → rename_of at names c t ≡ Ok r → Fine x rs ws b (typing t c) → Fine x rs ws b r
  rename_fine ws b at names c (rel s) r e f =
      let out : Typing = typing (rel (map (renamed_attr names) s)) c in
      let p = unless_none (stranger_in s (old_words names)) (unless (rename_repeat (kept_names s (old_names names)) [] names) (Ok out)) r e in
      let q = unless_none (rename_repeat (kept_names s (old_names names)) [] names) (Ok out) r p.1 in
      let h : out ≡ r = cc in
      into x rs ws b out r h
      (record {
        of = subst (λ (z : List Kind). IsOf (scope x) rs c (of_table z)) (sym (kinds_of-renamed names s)) f.of;
        good = rename_schema s names f.good q.0;
        walks = f.walks;
        gathers = f.gathers;
        small = f.small;
      })
  rename_fine ws b at names c _ r e f = absurd (let p = unless_none (rename_repeat [] [] names) (Err (mismatch at)) r e in cc)

  pub group_fine : (ws : List ℕ) (b at : ℕ) (by : List Word) (aggs : List Aggregate) (c : Expr) (t : Shape) (r : Typing) → 1 ≤ length by → group_type at by aggs c t ≡ Ok r → Fine x rs ws b (typing t c) → Fine x rs ws (b + 4) r
  group_fine ws b at by aggs c (rel s) r n e f =
      let out : Typing = typing (rel (group_attrs s by aggs)) (prim (Group s (places_in s by) (aggs_in s aggs)) (one_expr c) at) in
      let last : Result Typing TypeFault = given (list_all (λ a. sums_int s a.of) aggs) (mismatch at) out in
      let p = unless_none (stranger_in s by) (unless (stranger_in s (measured_words aggs)) (unless (result_fault at by aggs) last)) r e in
      let q = unless_none (stranger_in s (measured_words aggs)) (unless (result_fault at by aggs) last) r p.1 in
      let o = unless_none (result_fault at by aggs) last r q.1 in
      let z = given_true (list_all (λ a. sums_int s a.of) aggs) (mismatch at) out r o.1 in
      let g = group_schema at s by aggs n o.0 in
      let ks = kinds_of-group s by aggs in
      one_given ws b (typing (rel s) c) r (Group s (places_in s by) (aggs_in s aggs)) at (rel s) (rel (group_attrs s by aggs)) refl
      (record {
        good = both_true (list_all (is_place s) (places_in s by)) (list_all (is_good_agg s) (aggs_in s aggs)) (places_good s by (stranger_none s by p.0)) (good_aggs s aggs (stranger_none s (measured_words aggs) q.0) z.0);
        forms = ((refl, ap (λ (z : List Kind). of_table z) ks), subst (λ (z : List Kind). IsWidth z) ks (width_schema (group_attrs s by aggs) g));
      }) g z.1 f
  group_fine ws b at by aggs c _ r n e f = absurd (let p = unless_none (result_fault at by aggs) (Err (mismatch at)) r e in cc)

  sets_fine : (ws ws' : List ℕ) (b b' : ℕ) (op : Op) (at : ℕ) (c d : Expr) (s t : Shape) (r : Typing) → IsPair (Sets op) → sets_of op at c d s t ≡ Ok r →
      Fine x rs ws b (typing s c) → Fine x rs ws' b' (typing t d) → Fine x rs (ws ++ ws') (b + b' + 4) r
  sets_fine ws ws' b b' op at c d (rel s) (rel t) r k e f h =
      let g = given_true (same_schema s t) (mismatch at) (typing (rel s) (prim op (two_exprs c d) at)) r e in
      let same : rel t ≡ rel s = ap (λ (z : List Attr). rel z) (sym (same_schema-true s t g.0)) in
      into x rs (ws ++ ws') (b + b' + 4) (typing (rel s) (prim op (two_exprs c d) at)) r g.1
      (two_prim x rs ws ws' b b' (typing (rel s) c) (typing (rel t) d) op at (rel s)
      (op_of (env_in x).relations op (form_of (rel s) ∷ form_of (rel t) ∷ []) (of_table (kinds_of s) ∷ of_table (kinds_of s) ∷ []) (rel s) (rel s) (two_types (rel s) (rel t) (rel s) (rel s) refl same) refl (sets_op (env_in x).relations op (kinds_of s) k)) f.good f h)
  sets_fine ws ws' b b' op at c d _ _ r k e f h = absurd cc

  join_fine : (ws ws' : List ℕ) (b b' at : ℕ) (c d : Expr) (s t : Shape) (r : Typing) → join_type at c d s t ≡ Ok r →
      Fine x rs ws b (typing s c) → Fine x rs ws' b' (typing t d) → Fine x rs (ws ++ ws') (b + b' + 4) r
  join_fine ws ws' b b' at c d (rel s) (rel t) r e f h =
      let out : Typing = typing (rel (s ++ lacking s t)) (prim (join_op s t) (two_exprs c d) at) in
      let k = cond_first (nat_lt (length s + length (lacking s t)) 17) (too_many at) (given (kinds_agree s t) (mismatch at) out) r e in
      let g = given_true (kinds_agree s t) (mismatch at) out r k.1 in
      let few = ltb-true (length s + length (lacking s t)) 17 k.0 in
      into x rs (ws ++ ws') (b + b' + 4) out r g.1
      (two_prim x rs ws ws' b b' (typing (rel s) c) (typing (rel t) d) (join_op s t) at (rel (s ++ lacking s t))
      (record {
        good = both_true (kinds_agree s t) (nat_lt (length s + length (lacking s t)) 17) g.0 k.0;
        forms = ((refl, ap (λ (z : List Kind). of_table z) (kinds_of-append s (lacking s t))), h.good.distinct);
      }) (join_schema s t f.good h.good few) f h)
  join_fine ws ws' b b' at c d _ _ r e f h = absurd cc

  pub pair_fine : (ws ws' : List ℕ) (b b' : ℕ) (pair : Pair) (at : ℕ) (v w r : Typing) → IsPair pair → pair_row pair at v w ≡ Ok r → Fine x rs ws b v → Fine x rs ws' b' w → Fine x rs (ws ++ ws') (b + b' + 4) r
  pair_fine ws ws' b b' (Sets op) at v w r k e f h = sets_fine ws ws' b b' op at v.core w.core v.type w.type r k e f h
  pair_fine ws ws' b b' as_join at v w r k e f h = join_fine ws ws' b b' at v.core w.core v.type w.type r e f h

  -- ---- deltas from relations, relations from deltas

  pub bulk_fine : (ws : List ℕ) (b : ℕ) (sign : Sign) (w : Word) (at : ℕ) (v r : Typing) → bulk_row (env_in x) sign w at v ≡ Ok r → Fine x rs ws b v → Fine x rs ws (b + 4) r
  bulk_fine ws b sign w at v r e f = by (relation_named w.name (env_in x).relations) refl e
    where
      by : (o : Option ℕ) → relation_named w.name (env_in x).relations ≡ o → bulk_of (env_in x) sign w at v o ≡ Ok r → Fine x rs ws (b + 4) r
      by None k e = absurd cc
      by (Some i) k e =
          let ks : List Kind = kinds_of (schema_of (env_in x).relations i) in
          let out : Typing = typing delta (prim (Bulk sign (record { 0 = i })) (one_expr v.core) at) in
          let g = given_true (has_kinds ks v.type) (mismatch at) out r e in
          let n = relation_in w.name (env_in x).relations i k in
          let one : (form_of v.type ∷ []) ≡ (of_table ks ∷ []) = ap (λ (z : Form). z ∷ []) (has_kinds_form ks v.type g.0) in
          into x rs ws (b + 4) out r g.1 (one_prim x rs ws b v (Bulk sign (record { 0 = i })) at delta (record { good = refl; forms = ((one, refl), n) }) tt f)

  pub part_fine : (ws : List ℕ) (b : ℕ) (sign : Sign) (w : Word) (at : ℕ) (v r : Typing) → part_row (env_in x) sign w at v ≡ Ok r → Fine x rs ws b v → Fine x rs ws (b + 4) r
  part_fine ws b sign w at v r e f = by (relation_named w.name (env_in x).relations) refl e
    where
      op : (sign : Sign) (i : ℕ) → i < length (env_in x).relations → OpIsOf (env_in x).relations (part_op sign (record { 0 = i })) (of_delta ∷ []) (of_table (kinds_of (schema_of (env_in x).relations i)))
      op Plus i n = record { good = refl; forms = ((refl, refl), n) }
      op Minus i n = record { good = refl; forms = ((refl, refl), n) }

      by : (o : Option ℕ) → relation_named w.name (env_in x).relations ≡ o → part_of (env_in x) sign w at v o ≡ Ok r → Fine x rs ws (b + 4) r
      by None k e = absurd cc
      by (Some i) k e =
          let g = given_true (is_delta v.type) (mismatch at) (typing (rel (schema_of (env_in x).relations i)) (prim (part_op sign (record { 0 = i })) (one_expr v.core) at)) r e in
          let n = relation_in w.name (env_in x).relations i k in
          one_given ws b v r (part_op sign (record { 0 = i })) at delta (rel (schema_of (env_in x).relations i)) (is_delta-true v.type g.0) (op sign i n) (env.schemas i n) g.1 f

-- ---- walks

module _ {g : Env} (x : Inside g) (rs : List ℕ) where
  keep_fine : (ws ws' : List ℕ) (b b' n : ℕ) (s : List Attr) (c d : Expr) → IsSlot (scope x) n (of_tuple (kinds_of s)) → IsGathered (scope x) (gathers_in x) n (kinds_of s) →
      Fine x rs ws b (typing (rel s) c) → Fine x (n ∷ rs) ws' b' (typing bool d) → Fine x rs (n ∷ (ws ++ ws')) (b + b' + 2) (typing (rel s) (select n c d))
  keep_fine ws ws' b b' n s c d i j f h =
      let p = f.small in
      let q = h.small in
      record {
        of = (kinds_of s, f.of, i, h.of, refl);
        good = f.good;
        walks = ap (λ zs. n ∷ (zs ++ walks_in d)) f.walks ∙ ap (λ zs. n ∷ (ws ++ zs)) h.walks;
        gathers = (f.gathers, h.gathers, (kinds_of s, i, j));
        small = omega (arith, p, q);
      }

  map_fine : (ws ws' : List ℕ) (b b' n : ℕ) (s t : List Attr) (c d : Expr) → IsSlot (scope x) n (of_tuple (kinds_of s)) → IsGathered (scope x) (gathers_in x) n (kinds_of t) →
      Fine x rs ws b (typing (rel s) c) → Fine x (n ∷ rs) ws' b' (typing (tuple t) d) → Fine x rs (n ∷ (ws ++ ws')) (b + b' + 2) (typing (rel t) (map_each n c d))
  map_fine ws ws' b b' n s t c d i j f h =
      let p = f.small in
      let q = h.small in
      record {
        of = (kinds_of s, kinds_of t, f.of, i, h.of, refl);
        good = h.good;
        walks = ap (λ zs. n ∷ (zs ++ walks_in d)) f.walks ∙ ap (λ zs. n ∷ (ws ++ zs)) h.walks;
        gathers = (f.gathers, h.gathers, (kinds_of t, n ∷ rs, h.of, j));
        small = omega (arith, p, q);
      }

  image_fine : (ws ws' : List ℕ) (b b' at n : ℕ) (s : List Attr) (c d : Expr) (t : Shape) (r : Typing) → image_row at n c d t ≡ Ok r → IsSlot (scope x) n (of_tuple (kinds_of s)) → IsGathered (scope x) (gathers_in x) n (kinds_of (attrs_of_tuple t)) →
      Fine x rs ws b (typing (rel s) c) → Fine x (n ∷ rs) ws' b' (typing t d) → Fine x rs (n ∷ (ws ++ ws')) (b + b' + 2) r
  image_fine ws ws' b b' at n s c d (tuple t) r e i j f h =
      let k : typing (rel t) (map_each n c d) ≡ r = cc in
      into x rs (n ∷ (ws ++ ws')) (b + b' + 2) (typing (rel t) (map_each n c d)) r k (map_fine ws ws' b b' n s t c d i j f h)
  image_fine ws ws' b b' at n s c d _ r e i j f h = absurd cc

  pub walk_fine : (ws ws' : List ℕ) (b b' : ℕ) (walk : WalkKind) (at n : ℕ) (s : List Attr) (v w r : Typing) → v.type ≡ rel s → walk_row walk at n v w ≡ Ok r → IsSlot (scope x) n (of_tuple (kinds_of s)) → IsGathered (scope x) (gathers_in x) n (kinds_of (gathered walk (tuple s) w.type)) →
      Fine x rs ws b v → Fine x (n ∷ rs) ws' b' w → Fine x rs (n ∷ (ws ++ ws')) (b + b' + 2) r
  walk_fine ws ws' b b' Keeping at n s v w r k e i j f h =
      let g = given_true (is_bool w.type) (mismatch at) (typing v.type (select n v.core w.core)) r e in
      let f' : Fine x rs ws b (typing (rel s) v.core) = subst (λ (t : Shape). Fine x rs ws b (typing t v.core)) k f in
      let h' : Fine x (n ∷ rs) ws' b' (typing bool w.core) = subst (λ (t : Shape). Fine x (n ∷ rs) ws' b' (typing t w.core)) (is_bool-true w.type g.0) h in
      let same : typing (rel s) (select n v.core w.core) ≡ r = ap (λ (t : Shape). typing t (select n v.core w.core)) (sym k) ∙ g.1 in
      into x rs (n ∷ (ws ++ ws')) (b + b' + 2) (typing (rel s) (select n v.core w.core)) r same (keep_fine ws ws' b b' n s v.core w.core i j f' h')
  walk_fine ws ws' b b' Mapping at n s v w r k e i j f h =
      let f' : Fine x rs ws b (typing (rel s) v.core) = subst (λ (t : Shape). Fine x rs ws b (typing t v.core)) k f in
      image_fine ws ws' b b' at n s v.core w.core w.type r e i j f' h
