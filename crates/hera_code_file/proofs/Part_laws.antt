-- Parts of instructions that are read are those that are written.
use Rattle.std.proofs.Common.{◌≡◌, ◌≤◌, ◌<◌, ◌^◌, ℕ, zero, suc, ◌+◌, Bool, true, false, List, [], ◌∷◌, ◌++◌, length, take, Option, Some, None, Result, Ok, refl, sym, ap, subst, ◌∙◌, append_assoc, arith, ℤ}
use Rattle.std.specs.Prelude.{nat_le, nat_lt, IfSome}
use Rattle.std.specs.Option.{option_and_then}
use Rattle.std.specs.Int.{w16, w64, to_be_bytes}
use Rattle.std.proofs.lemmas.Bool.{le-leb}
use Rattle.std.proofs.lemmas.Option.{none-some, same_Some}
use Rattle.hera_meaning.specs.declared.scalars.RelId.{RelId}
use Rattle.hera_meaning.specs.declared.scalars.Sign.{Sign}
use Rattle.hera_meaning.specs.declared.scalars.Sign.TheVariants.{Plus, Minus}
use Rattle.hera_meaning.specs.declared.scalars.Scalar.{Scalar}
use Rattle.hera_meaning.specs.declared.scalars.Scalar.TheVariants as scalars
use Rattle.hera_meaning.specs.declared.schemas.Agg.{Agg}
use Rattle.hera_meaning.specs.declared.schemas.Agg.TheVariants as aggs
use Rattle.hera_meaning.specs.declared.trees.Shape.{Shape}
use Rattle.hera_meaning.specs.declared.trees.Shape.TheVariants as shapes
use Rattle.hera_meaning.specs.declared.trees.Const.{Const}
use Rattle.hera_meaning.specs.declared.trees.Const.TheVariants as consts
use Rattle.hera_meaning.specs.Texts.{is_text}
use Rattle.hera_meaning.specs.Rows.{shifted}
use Rattle.hera_row.proofs.FieldLemmas.{AreBytes, text_tests}
use Rattle.hera_row.proofs.Numbers.{shifted-below, shifted-back, lowered_fits, shifted-lowered}
use Rattle.rel_format.specs.Fields.{kept, piece, number, first_byte}
use Rattle.rel_format.proofs.Printed.{kept_is}
use Rattle.hera_code_file.specs.Printing.{word, flag, list_bytes, option_bytes, schema_bytes, shape_bytes, scalar_bytes, const_bytes, sign_bytes, relation_bytes, agg_bytes}
use Rattle.hera_code_file.specs.Fitting.{IsWord, IsRelation, Each, IsNamed, ShapeFits, ConstFits, AggFits}
use Rattle.hera_code_file.specs.Reading.{◌>>=◌, Reader, field, bare, one, small, numbered, number_at, word_at, flag_at, option_at, schema_at, shape_readers, shape_at, text_len_at, text_piece, text_at, int_const, bool_const, text_const, const_readers, const_at, sign_of, sign_at, relation_id, relation_id_at, agg_readers, agg_at, places_at, aggs_at}
use Rattle.hera_code_file.proofs.Laws.{bind_ok, ok_is, Taken, then, Law, field_ok, small_takes, half_law, word_law, double_law, Entry, Entries, entry_bare, entry_one, numbered_takes, numbered_again, one_again, list_law}
use Rattle.rel_format.proofs.Printed.{piece_is}
use Rattle.rel_format.proofs.Printing.{kept_pass, piece_printed}
use Rattle.hera_code_file.proofs.Schema_law.{field_taken, field_again, schema_law}

-- ---- bytes

flag_is : (n : ℕ) → n < 2 → flag (nat_lt 0 n) ≡ n ∷ []
flag_is zero h = refl
flag_is (suc zero) h = refl
flag_is (suc (suc n)) h = absurd (omega (arith, h))

pub flag_law : Law Bool flag_at flag (λ b. Unit {0})
flag_law = record { takes = takes; again = again }
  where
    takes : (bytes : List ℕ) (b : Bool) (rest : List ℕ) → AreBytes bytes → flag_at bytes ≡ Ok (b, rest) → Taken bytes (flag b) rest × Unit {0}
    takes bytes b rest are e =
        let n = bind_ok (small 2 bytes) (λ x. Ok (nat_lt 0 x.0, x.1)) (b, rest) e in
        let s = small_takes 2 bytes n.0.0 n.0.1 n.1 in
        let tail : AreBytes n.0.1 = λ i. subst AreBytes s.0 are (suc i) in
        let text : Taken bytes (flag (nat_lt 0 n.0.0)) n.0.1 = record { parts = s.0 ∙ ap (λ (t : List ℕ). t ++ n.0.1) (sym (flag_is n.0.0 s.1)); fits = tail } in
        (subst (λ (z : Bool × List ℕ). Taken bytes (flag z.0) z.1) (ok_is {A = Bool × List ℕ} (nat_lt 0 n.0.0, n.0.1) (b, rest) n.2) text, tt)

    again : (b : Bool) (rest : List ℕ) → Unit {0} → flag_at (flag b ++ rest) ≡ Ok (b, rest)
    again true rest h = refl
    again false rest h = refl

sign_back : (n : ℕ) (s : Sign) → sign_of n ≡ Some s → n ∷ [] ≡ sign_bytes s
sign_back zero s e = absurd (none-some s e)
sign_back (suc zero) s e = ap sign_bytes (same_Some Plus s e)
sign_back (suc (suc zero)) s e = ap sign_bytes (same_Some Minus s e)
sign_back (suc (suc (suc n))) s e = absurd (none-some s e)

sign_is : (bytes : List ℕ) (s : Sign) → option_and_then sign_of (first_byte bytes) ≡ Some s → take 1 bytes ≡ sign_bytes s
sign_is [] s e = absurd (none-some s e)
sign_is (b ∷ bytes) s e = sign_back b s e

pub sign_law : Law Sign sign_at sign_bytes (λ s. Unit {0})
sign_law = record { takes = takes; again = again }
  where
    takes : (bytes : List ℕ) (s : Sign) (rest : List ℕ) → AreBytes bytes → sign_at bytes ≡ Ok (s, rest) → Taken bytes (sign_bytes s) rest × Unit {0}
    takes bytes s rest are e =
        let f = field_ok 1 (option_and_then sign_of (first_byte bytes)) bytes s rest e in
        (field_taken 1 (option_and_then sign_of (first_byte bytes)) bytes s rest (sign_bytes s) are e (sign_is bytes s f.0), tt)

    again : (s : Sign) (rest : List ℕ) → Unit {0} → sign_at (sign_bytes s ++ rest) ≡ Ok (s, rest)
    again Plus rest h = refl
    again Minus rest h = refl

pub relation_id_law : Law RelId relation_id_at relation_bytes IsRelation
relation_id_law = record { takes = takes; again = again }
  where
    takes : (bytes : List ℕ) (r : RelId) (rest : List ℕ) → AreBytes bytes → relation_id_at bytes ≡ Ok (r, rest) → Taken bytes (relation_bytes r) rest × IsRelation r
    takes bytes r rest are e =
        let n = bind_ok (number_at w16 bytes) (λ x. Ok (relation_id x.0, x.1)) (r, rest) e in
        let l = half_law.takes bytes n.0.0 n.0.1 are n.1 in
        subst (λ (z : RelId × List ℕ). Taken bytes (relation_bytes z.0) z.1 × IsRelation z.0) (ok_is {A = RelId × List ℕ} (relation_id n.0.0, n.0.1) (r, rest) n.2) l

    again : (r : RelId) (rest : List ℕ) → IsRelation r → relation_id_at (relation_bytes r ++ rest) ≡ Ok (r, rest)
    again r rest h = one_again relation_id (number_at w16) (to_be_bytes w16) (λ n. n < 2 ^ 16) half_law r.0 rest h

-- ---- where there is one

pub option_law : {A : Type 0} (read : Reader A) (text : A → List ℕ) (Fits : A → Type 0) → Law A read text Fits → Law (Option A) (option_at read) (option_bytes text) (λ o. IfSome o Fits)
option_law {A} read text Fits law = record { takes = takes; again = again }
  where
    entries : Entries (Option A) (option_bytes text) (λ o. IfSome o Fits) 0 (bare None ∷ one Some read ∷ [])
    entries = (entry_bare 0 None (option_bytes text) (λ o. IfSome o Fits) refl tt, (entry_one 1 Some read text Fits (option_bytes text) (λ o. IfSome o Fits) law (λ a f. refl) (λ a f. f), tt))

    takes : (bytes : List ℕ) (o : Option A) (rest : List ℕ) → AreBytes bytes → option_at read bytes ≡ Ok (o, rest) → Taken bytes (option_bytes text o) rest × IfSome o Fits
    takes bytes o rest are e = numbered_takes (option_bytes text) (λ o. IfSome o Fits) (bare None ∷ one Some read ∷ []) entries bytes o rest are e

    again : (o : Option A) (rest : List ℕ) → IfSome o Fits → option_at read (option_bytes text o ++ rest) ≡ Ok (o, rest)
    again None rest h = numbered_again (bare None ∷ one Some read ∷ []) 0 rest None rest refl refl
    again (Some x) rest h = numbered_again (bare None ∷ one Some read ∷ []) 1 (text x ++ rest) (Some x) rest refl (one_again Some read text Fits law x rest h)

-- ---- shapes

pub shape_law : Law Shape shape_at shape_bytes ShapeFits
unfolding shape_at
shape_law = record { takes = takes; again = again }
  where
    bare_shape : (t : ℕ) (s : Shape) → shape_bytes s ≡ t ∷ [] → ShapeFits s → Entry Shape t (bare s) shape_bytes ShapeFits
    bare_shape t s same fit = entry_bare t s shape_bytes ShapeFits same fit

    entries : Entries Shape shape_bytes ShapeFits 0 shape_readers
    entries = (
      bare_shape 0 shapes.Int refl tt,
      (
        bare_shape 1 shapes.Bool refl tt,
        (
          bare_shape 2 shapes.Text refl tt,
          (
            entry_one 3 shapes.Tuple schema_at schema_bytes IsNamed shape_bytes ShapeFits schema_law (λ a f. refl) (λ a f. f),
            (
              entry_one 4 shapes.Rel schema_at schema_bytes IsNamed shape_bytes ShapeFits schema_law (λ a f. refl) (λ a f. f),
              (bare_shape 5 shapes.Delta refl tt, tt),
            ),
          ),
        ),
      ),
    )

    takes : (bytes : List ℕ) (s : Shape) (rest : List ℕ) → AreBytes bytes → shape_at bytes ≡ Ok (s, rest) → Taken bytes (shape_bytes s) rest × ShapeFits s
    takes bytes s rest are e = numbered_takes shape_bytes ShapeFits shape_readers entries bytes s rest are e

    again : (s : Shape) (rest : List ℕ) → ShapeFits s → shape_at (shape_bytes s ++ rest) ≡ Ok (s, rest)
    again shapes.Int rest h = numbered_again shape_readers 0 rest shapes.Int rest refl refl
    again shapes.Bool rest h = numbered_again shape_readers 1 rest shapes.Bool rest refl refl
    again shapes.Text rest h = numbered_again shape_readers 2 rest shapes.Text rest refl refl
    again (shapes.Tuple schema) rest h = numbered_again shape_readers 3 (schema_bytes schema ++ rest) (shapes.Tuple schema) rest refl (one_again shapes.Tuple schema_at schema_bytes IsNamed schema_law schema rest h)
    again (shapes.Rel schema) rest h = numbered_again shape_readers 4 (schema_bytes schema ++ rest) (shapes.Rel schema) rest refl (one_again shapes.Rel schema_at schema_bytes IsNamed schema_law schema rest h)
    again shapes.Delta rest h = numbered_again shape_readers 5 rest shapes.Delta rest refl refl

-- ---- constants

abbrev text_bytes : List ℕ → List ℕ
text_bytes t = to_be_bytes w16 (length t) ++ t

text_law : Law (List ℕ) text_at text_bytes (λ t. is_text t ≡ true)
unfolding text_at
text_law = record { takes = takes; again = again }
  where
    takes : (bytes t rest : List ℕ) → AreBytes bytes → text_at bytes ≡ Ok (t, rest) → Taken bytes (text_bytes t) rest × (is_text t ≡ true)
    takes bytes t rest are e =
        let n = bind_ok (text_len_at bytes) (λ n. text_piece n.0 n.1) (t, rest) e in
        let f = field_ok 2 (kept (λ k. nat_le k 1023) (number w16 bytes)) bytes n.0.0 n.0.1 n.1 in
        let k = kept_is (λ (m : ℕ). nat_le m 1023) (number w16 bytes) n.0.0 f.0 in
        let same : field 2 (number w16 bytes) bytes ≡ Ok n.0 = ap (λ (o : Option ℕ). field 2 o bytes) k.0 ∙ ap (λ (r : List ℕ). Ok (n.0.0, r)) f.1 in
        let t0 = (half_law.takes bytes n.0.0 n.0.1 are same).0 in
        let g = field_ok n.0.0 (kept is_text (piece n.0.0 n.0.1)) n.0.1 t rest n.2 in
        let h = kept_is is_text (piece n.0.0 n.0.1) t g.0 in
        let p = piece_is n.0.0 n.0.1 t h.0 in
        let t1 = field_taken n.0.0 (kept is_text (piece n.0.0 n.0.1)) n.0.1 t rest t t0.fits n.2 p.0 in
        (subst (λ (m : ℕ). Taken bytes (to_be_bytes w16 m ++ t) rest) p.1 (then bytes (to_be_bytes w16 n.0.0) n.0.1 t rest t0 t1), h.1)

    again : (t rest : List ℕ) → is_text t ≡ true → text_at (text_bytes t ++ rest) ≡ Ok (t, rest)
    again t rest h =
        let tests = text_tests t h in
        let small : length t ≤ 1023 = tests.short in
        let tail : List ℕ = t ++ rest in
        let whole = to_be_bytes w16 (length t) ++ tail in
        let f = field_ok 2 (number w16 whole) whole (length t) tail (half_law.again (length t) tail (omega (arith, small))) in
        let len : text_len_at whole ≡ Ok (length t, tail) = field_again 2 (kept (λ k. nat_le k 1023) (number w16 whole)) (length t) (to_be_bytes w16 (length t)) tail (ap (kept (λ (k : ℕ). nat_le k 1023)) f.0 ∙ kept_pass (λ (k : ℕ). nat_le k 1023) (length t) (le-leb (length t) 1023 small)) refl in
        let text : text_piece (length t) tail ≡ Ok (t, rest) = field_again (length t) (kept is_text (piece (length t) tail)) t t rest (ap (kept is_text) (piece_printed t rest (length t) refl) ∙ kept_pass is_text t h) refl in
        ap text_at (append_assoc (to_be_bytes w16 (length t)) t rest)
        ∙ ap (λ (r : Result (ℕ × List ℕ) ℕ). r >>= λ n. text_piece n.0 n.1) len
        ∙ text

pub const_law : Law Const const_at const_bytes ConstFits
unfolding const_at
const_law = record { takes = takes; again = again }
  where
    entries : Entries Const const_bytes ConstFits 0 const_readers
    entries = (
      entry_one 0 int_const (number_at w64) (to_be_bytes w64) (λ n. n < 2 ^ 64) const_bytes ConstFits double_law (λ n f. ap (λ (m : ℕ). 0 ∷ to_be_bytes w64 m) (shifted-lowered n f)) (λ n f. lowered_fits n f),
      (
        entry_one 1 bool_const flag_at flag (λ b. Unit {0}) const_bytes ConstFits flag_law (λ b f. refl) (λ b f. refl),
        (
          entry_one 2 text_const text_at text_bytes (λ t. is_text t ≡ true) const_bytes ConstFits text_law (λ t f. refl) (λ t f. f),
          (
            entry_bare 3 consts.EmptyDelta const_bytes ConstFits refl tt,
            (entry_bare 4 consts.FailDelta const_bytes ConstFits refl tt, tt),
          ),
        ),
      ),
    )

    takes : (bytes : List ℕ) (c : Const) (rest : List ℕ) → AreBytes bytes → const_at bytes ≡ Ok (c, rest) → Taken bytes (const_bytes c) rest × ConstFits c
    takes bytes c rest are e = numbered_takes const_bytes ConstFits const_readers entries bytes c rest are e

    scalar_again : (s : Scalar) (rest : List ℕ) → ConstFits (consts.Scalar s) → numbered const_readers (scalar_bytes s ++ rest) ≡ Ok (consts.Scalar s, rest)
    scalar_again (scalars.Int v) rest h =
        numbered_again const_readers 0 (to_be_bytes w64 (shifted v) ++ rest) (consts.Scalar (scalars.Int v)) rest refl
        (one_again int_const (number_at w64) (to_be_bytes w64) (λ n. n < 2 ^ 64) double_law (shifted v) rest (shifted-below v h) ∙ ap (λ (i : ℤ). Ok (consts.Scalar (scalars.Int i), rest)) (shifted-back v h))
    scalar_again (scalars.Bool b) rest h = numbered_again const_readers 1 (flag b ++ rest) (consts.Scalar (scalars.Bool b)) rest refl (one_again bool_const flag_at flag (λ b. Unit {0}) flag_law b rest tt)
    scalar_again (scalars.Text t) rest h = numbered_again const_readers 2 (text_bytes t ++ rest) (consts.Scalar (scalars.Text t)) rest refl (one_again text_const text_at text_bytes (λ t. is_text t ≡ true) text_law t rest h)

    again : (c : Const) (rest : List ℕ) → ConstFits c → const_at (const_bytes c ++ rest) ≡ Ok (c, rest)
    again (consts.Scalar s) rest h = scalar_again s rest h
    again consts.EmptyDelta rest h = numbered_again const_readers 3 rest consts.EmptyDelta rest refl refl
    again consts.FailDelta rest h = numbered_again const_readers 4 rest consts.FailDelta rest refl refl

-- ---- aggregates and places

agg_law : Law Agg agg_at agg_bytes AggFits
unfolding agg_at
agg_law = record { takes = takes; again = again }
  where
    entries : Entries Agg agg_bytes AggFits 0 agg_readers
    entries = (
      entry_bare 0 aggs.Count agg_bytes AggFits refl tt,
      (
        entry_one 1 aggs.Sum word_at word IsWord agg_bytes AggFits word_law (λ a f. refl) (λ a f. f),
        (
          entry_one 2 aggs.Min word_at word IsWord agg_bytes AggFits word_law (λ a f. refl) (λ a f. f),
          (entry_one 3 aggs.Max word_at word IsWord agg_bytes AggFits word_law (λ a f. refl) (λ a f. f), tt),
        ),
      ),
    )

    takes : (bytes : List ℕ) (a : Agg) (rest : List ℕ) → AreBytes bytes → agg_at bytes ≡ Ok (a, rest) → Taken bytes (agg_bytes a) rest × AggFits a
    takes bytes a rest are e = numbered_takes agg_bytes AggFits agg_readers entries bytes a rest are e

    again : (a : Agg) (rest : List ℕ) → AggFits a → agg_at (agg_bytes a ++ rest) ≡ Ok (a, rest)
    again aggs.Count rest h = numbered_again agg_readers 0 rest aggs.Count rest refl refl
    again (aggs.Sum i) rest h = numbered_again agg_readers 1 (word i ++ rest) (aggs.Sum i) rest refl (one_again aggs.Sum word_at word IsWord word_law i rest h)
    again (aggs.Min i) rest h = numbered_again agg_readers 2 (word i ++ rest) (aggs.Min i) rest refl (one_again aggs.Min word_at word IsWord word_law i rest h)
    again (aggs.Max i) rest h = numbered_again agg_readers 3 (word i ++ rest) (aggs.Max i) rest refl (one_again aggs.Max word_at word IsWord word_law i rest h)

pub places_law : Law (List ℕ) places_at (list_bytes word) (Each IsWord)
unfolding places_at
places_law = list_law word_at word IsWord word_law

pub aggs_law : Law (List Agg) aggs_at (list_bytes agg_bytes) (Each AggFits)
unfolding aggs_at
aggs_law = list_law agg_at agg_bytes AggFits agg_law
