-- Operations that read relations where they stand.
use Rattle.std.proofs.Common.{inl, inr, ◌≡◌, ℕ, zero, suc, ◌<◌, Bool, true, false, ◌&&◌, List, [], ◌∷◌, drop, None, Some, refl, sym, ap, ◌∙◌, subst, arith}
use Rattle.std.specs.Prelude.{◌≢◌, ◌⊎◌, take, slice_get}
use Rattle.hera_sets.specs.Rows.{Row}
use Rattle.hera_meaning.specs.declared.trees.Op.{Op}
use Rattle.hera_meaning.specs.declared.trees.Op.TheVariants as ops
use Rattle.hera_meaning.specs.Deltas.{State}
use Rattle.hera_meaning.specs.Values.{Value, scalar, tuple, table, operand}
use Rattle.hera_meaning.specs.Fits.{arity, fits_of}
use Rattle.hera_meaning.specs.Primitives.{given}
use Rattle.hera_code.specs.Machine.{Machine, ends, stuck, on_some, needs_that, as_tuple, as_table, answer_step, answers}
use Rattle.hera_fits.specs.Tables.{is_relational, takes_relations, tables}
use Rattle.hera_prims.proofs.Named.{no_relation}
use Rattle.hera_frames.specs.Items.{Item, value_at, operands_at}
use Rattle.hera_steps.specs.declared.running.relations.RelationAnswer.{RelationAnswer}
use Rattle.hera_steps.specs.declared.running.relations.RelationAnswer.TheVariants.{Misfit, Trap, Answer}
use Rattle.hera_steps.specs.Finding.{IsFound, found_step, is_measure}
use Rattle.hera_steps.specs.Working.{Work, machine_at}

-- ---- what is found

-- where the operation takes relations alone, or none at all, the rows decide whether it fits them
pub misfit : (op : Op) (xs ys : List Row) → takes_relations op ≡ is_relational op → 0 < arity op → (is_relational op && fits_of op (tables op xs ys)) ≡ false → fits_of op (tables op xs ys) ≡ false
misfit op xs ys takes some h = by (is_relational op) refl h
  where
    first : (n : ℕ) → 0 < n → operand (take n (table xs ∷ table ys ∷ [])) 0 ≡ table xs
    first zero g = absurd (omega (arith, g))
    first (suc n) g = refl

    by : (b : Bool) → is_relational op ≡ b → (b && fits_of op (tables op xs ys)) ≡ false → fits_of op (tables op xs ys) ≡ false
    by true e g = g
    by false e g = no_relation op (tables op xs ys) 0 xs (takes ∙ e) (first (arity op) some)

-- ---- steps

pub answered : (at : ℕ) (op : Op) (args vs : List Value) (m : Machine) (f : RelationAnswer) → IsFound op args f → found_step at vs m f ≡ answers at op args vs m
answered at op args vs m Misfit h = sym (ap (λ b. needs_that b (answer_step at (given op args) vs m)) h)
answered at op args vs m (Trap name) h = sym (ap (λ b. needs_that b (answer_step at (given op args) vs m)) h.0 ∙ ap (λ a. answer_step at a vs m) h.1)
answered at op args vs m (Answer v) h = sym (ap (λ b. needs_that b (answer_step at (given op args) vs m)) h.0 ∙ ap (λ a. answer_step at a vs m) h.1)

-- a value that is a relation
pub table_of : (v : Value) (rows : List Row) → as_table v ≡ Some rows → v ≡ table rows
table_of (scalar s) rows h = cc
table_of v rows h = cc

pub tuple_of : (v : Value) (row : Row) → as_tuple v ≡ Some row → v ≡ tuple row
tuple_of (scalar s) row h = cc
tuple_of v row h = cc

no_table : (v : Value) (op : Op) → is_measure op ≡ true → as_table v ≡ None → fits_of op (v ∷ []) ≡ false
no_table (table xs) op m h = cc
no_table v ops.Count m h = refl
no_table v ops.Empty m h = refl
no_table v op m h = cc

module _ (s : State) (at : ℕ) (op : Op) (w : Work) where
  -- one operand, which is a relation
  pub one_told : (item : Item) (rows : List Row) (f : RelationAnswer) → Some item ≡ slice_get w.operands 0 → as_table (value_at s w.layers item) ≡ Some rows → IsFound op (table rows ∷ []) f →
      found_step at (drop 1 (machine_at s w).operands) (machine_at s w) f ≡ on_some 1 (machine_at s w).operands (λ args vs. answers at op args vs (machine_at s w))
  one_told item rows f here is found = by w.operands here
    where
      by : (items : List Item) → Some item ≡ slice_get items 0 → found_step at (drop 1 (operands_at s w.layers items)) (machine_at s w) f ≡ on_some 1 (operands_at s w.layers items) (λ args vs. answers at op args vs (machine_at s w))
      by [] e = cc
      by (x ∷ items) e =
          let same : item ≡ x = cc in
          let first : value_at s w.layers x ≡ table rows = ap (value_at s w.layers) (sym same) ∙ table_of (value_at s w.layers item) rows is in
          answered at op (table rows ∷ []) (operands_at s w.layers items) (machine_at s w) f found
          ∙ ap (λ v. answers at op (v ∷ []) (operands_at s w.layers items) (machine_at s w)) (sym first)

  pub one_stuck : (item : Item) → is_measure op ≡ true → Some item ≡ slice_get w.operands 0 → as_table (value_at s w.layers item) ≡ None →
      ends stuck ≡ on_some 1 (machine_at s w).operands (λ args vs. answers at op args vs (machine_at s w))
  one_stuck item m here is = by w.operands here
    where
      by : (items : List Item) → Some item ≡ slice_get items 0 → ends stuck ≡ on_some 1 (operands_at s w.layers items) (λ args vs. answers at op args vs (machine_at s w))
      by [] e = refl
      by (x ∷ items) e =
          let same : item ≡ x = cc in
          let first : as_table (value_at s w.layers x) ≡ None = ap (λ y. as_table (value_at s w.layers y)) (sym same) ∙ is in
          sym (ap (λ b. needs_that b (answer_step at (given op (value_at s w.layers x ∷ [])) (operands_at s w.layers items) (machine_at s w))) (no_table (value_at s w.layers x) op m first))

  -- two operands, which are relations
  pub two_told : (item other : Item) (rows lefts : List Row) (f : RelationAnswer) → Some item ≡ slice_get w.operands 0 → Some other ≡ slice_get w.operands 1 → as_table (value_at s w.layers item) ≡ Some rows →
      as_table (value_at s w.layers other) ≡ Some lefts → IsFound op (table lefts ∷ table rows ∷ []) f →
      found_step at (drop 2 (machine_at s w).operands) (machine_at s w) f ≡ on_some 2 (machine_at s w).operands (λ args vs. answers at op args vs (machine_at s w))
  two_told item other rows lefts f here there is was found = by w.operands here there
    where
      by : (items : List Item) → Some item ≡ slice_get items 0 → Some other ≡ slice_get items 1 → found_step at (drop 2 (operands_at s w.layers items)) (machine_at s w) f ≡ on_some 2 (operands_at s w.layers items) (λ args vs. answers at op args vs (machine_at s w))
      by [] e g = cc
      by (x ∷ []) e g = cc
      by (x ∷ y ∷ items) e g =
          let same : item ≡ x = cc in
          let also : other ≡ y = cc in
          let right : value_at s w.layers x ≡ table rows = ap (value_at s w.layers) (sym same) ∙ table_of (value_at s w.layers item) rows is in
          let left : value_at s w.layers y ≡ table lefts = ap (value_at s w.layers) (sym also) ∙ table_of (value_at s w.layers other) lefts was in
          answered at op (table lefts ∷ table rows ∷ []) (operands_at s w.layers items) (machine_at s w) f found
          ∙ ap (λ v. answers at op (v ∷ table rows ∷ []) (operands_at s w.layers items) (machine_at s w)) (sym left)
          ∙ ap (λ v. answers at op (value_at s w.layers y ∷ v ∷ []) (operands_at s w.layers items) (machine_at s w)) (sym right)

-- ---- an operation on relations, one or two

some_operands : (items : List Item) (item : Item) → Some item ≡ slice_get items 0 → items ≡ [] → ⊥
some_operands items item h e = let k : Some item ≡ None = h ∙ ap (λ xs. slice_get xs 0) e in cc

-- what is said of an answer
abbrev pub IsRelated : State → Op → Work → RelationAnswer → Type 0
IsRelated s op w f =
    ((arity op ≡ 1) ⊎ (arity op ≡ 2)) × (w.operands ≢ []) × ((at : ℕ) → found_step at (drop (arity op) (machine_at s w).operands) (machine_at s w) f ≡ on_some (arity op) (machine_at s w).operands (λ args vs. answers at op args vs (machine_at s w)))

module _ (s : State) (op : Op) (w old : Work) (f : RelationAnswer) (same : w ≡ old) (n : ℕ) (count : n ≡ arity op) where
  pub related_one : (item : Item) (rows ys : List Row) → n ≡ 1 → Some item ≡ slice_get w.operands 0 → Some rows ≡ as_table (value_at s w.layers item) → IsFound op (tables op rows ys) f → IsRelated s op old f
  related_one item rows ys one here is found =
      let e : arity op ≡ 1 = sym count ∙ one in
      let fits : IsFound op (table rows ∷ []) f = subst (λ k. IsFound op (take k (table rows ∷ table ys ∷ [])) f) e found in
      subst (λ (x : Work). IsRelated s op x f) same (
        inl e,
        some_operands w.operands item here,
        λ at. subst (λ k. found_step at (drop k (machine_at s w).operands) (machine_at s w) f ≡ on_some k (machine_at s w).operands (λ args vs. answers at op args vs (machine_at s w))) (sym e)
            (one_told s at op w item rows f here (sym is) fits),
      )

  pub related_two : (item other : Item) (rows lefts : List Row) → n ≡ 2 → Some item ≡ slice_get w.operands 0 → Some other ≡ slice_get w.operands 1 → Some rows ≡ as_table (value_at s w.layers item) →
      Some lefts ≡ as_table (value_at s w.layers other) → IsFound op (tables op lefts rows) f → IsRelated s op old f
  related_two item other rows lefts two here there is was found =
      let e : arity op ≡ 2 = sym count ∙ two in
      let fits : IsFound op (table lefts ∷ table rows ∷ []) f = subst (λ k. IsFound op (take k (table lefts ∷ table rows ∷ [])) f) e found in
      subst (λ (x : Work). IsRelated s op x f) same (
        inr e,
        some_operands w.operands item here,
        λ at. subst (λ k. found_step at (drop k (machine_at s w).operands) (machine_at s w) f ≡ on_some k (machine_at s w).operands (λ args vs. answers at op args vs (machine_at s w))) (sym e)
            (two_told s at op w item other rows lefts f here there (sym is) (sym was) fits),
      )

-- ---- a count, or a test for no tuples

abbrev pub IsMeasured : State → Op → Work → RelationAnswer → Type 0
IsMeasured s op w f =
    (w.operands ≢ []) × ((at : ℕ) → found_step at (drop 1 (machine_at s w).operands) (machine_at s w) f ≡ on_some 1 (machine_at s w).operands (λ args vs. answers at op args vs (machine_at s w)))

module _ (s : State) (op : Op) (w old : Work) (same : w ≡ old) where
  pub measured_one : (f : RelationAnswer) (item : Item) (rows : List Row) → Some item ≡ slice_get w.operands 0 → Some rows ≡ as_table (value_at s w.layers item) → IsFound op (table rows ∷ []) f → IsMeasured s op old f
  measured_one f item rows here is found =
      subst (λ (x : Work). IsMeasured s op x f) same (some_operands w.operands item here, λ at. one_told s at op w item rows f here (sym is) found)

  pub measured_other : (item : Item) → is_measure op ≡ true → Some item ≡ slice_get w.operands 0 → None ≡ as_table (value_at s w.layers item) →
      (at : ℕ) → ends stuck ≡ on_some 1 (machine_at s old).operands (λ args vs. answers at op args vs (machine_at s old))
  measured_other item m here is at =
      subst (λ (x : Work). ends stuck ≡ on_some 1 (machine_at s x).operands (λ args vs. answers at op args vs (machine_at s x))) same (one_stuck s at op w item m here (sym is))
