-- Answers that went well, and others.
use Rattle.std.proofs.Common.{◌≡◌, true, false, Result, Ok, Err, IfErr, OnOk, OnErr, IsErrAnd, sym, ap, ◌∙◌, subst}
use Rattle.hera_outcome.specs.declared.answer.Stop.{Stop}
use Rattle.hera_outcome.specs.declared.answer.Stop.TheVariants.{Output, Memory, Full}
use Rattle.hera_outcome.specs.Answers.{IsSpoken}
use Rattle.hera_outcome.specs.Passages.{passage, KeepsFiles}
use Rattle.hera_causes.specs.declared.traits.Output as output
use Rattle.hera_volume.specs.declared.outside.Outside as files

pub ok_is_no_err : {A E : Type 0} (x : A) (e : E) → Ok x ≡ Err e → ⊥
ok_is_no_err x e is = cc (is)

err_or : {A E : Type 0} → E → Result A E → E
err_or e (Ok x) = e
err_or e (Err y) = y

pub same_error : {A E : Type 0} (x y : E) → ◌≡◌ {A = Result A E} (Err x) (Err y) → x ≡ y
unfolding err_or
same_error {A} x y is = ap (λ (r : Result A _). err_or x r) is

pub ok_then : {T E A B : Type 0} (r : Result T E) → OnOk r A → (A → B) → OnOk r B
ok_then (Ok x) a next = next a
ok_then (Err e) a next = tt

pub ok_both : {T E A B C : Type 0} (r : Result T E) → OnOk r A → OnOk r B → (A → B → C) → OnOk r C
ok_both (Ok x) a b next = next a b
ok_both (Err e) a b next = tt

pub ok_always : {T E A : Type 0} (r : Result T E) → A → OnOk r A
ok_always (Ok x) a = a
ok_always (Err e) a = tt

-- an error that is handed on
pub err_is : {T : Type 0} (P : Stop → Type 0) (r : Result T Stop) (stop : Stop) → IsErrAnd r (λ e. e ≡ stop) → P stop → IfErr r P
err_is P (Ok x) stop none p = tt
err_is P (Err e) stop same p = subst P (sym same) p

-- ---- stops of a call that only speaks

pub output_is_spoken : {T : Type 0} (r : Result T Stop) → IfErr r (λ stop. stop ≡ Output) → IfErr r IsSpoken
output_is_spoken (Ok x) fault = tt
output_is_spoken (Err stop) fault = subst IsSpoken (sym fault) tt

-- ---- files that are kept

pub keeps_on : {D : Type 0} (q : output.Ghosts D) (w : files.Ghosts D) (a b c : D) → KeepsFiles (passage q w a b) → KeepsFiles (passage q w b c) → KeepsFiles (passage q w a c)
keeps_on q w a b c first then = record { files = λ t f. then.files t f ∙ first.files t f; device = then.device ∙ first.device }

-- a line always fits
pub line_never_full : true ≡ false → ⊥
line_never_full is = cc (is)

pub on_err : {T E A : Type 0} (r : Result T E) → A → OnErr r A
on_err (Ok x) a = tt
on_err (Err e) a = a

-- want of memory is no full half
pub memory_not_full : {T : Type 0} (r : Result T Stop) → IsErrAnd r (λ e. e ≡ Memory) → ◌≡◌ {A = Result T Stop} r (Err Full) → ⊥
memory_not_full (Ok x) none is = none
memory_not_full {T} (Err e) same is = (let bad : Memory ≡ Full = sym same ∙ same_error {A = T} e Full is in cc (bad))
