-- Parts read one after another, as a loop does.
use Rattle.std.proofs.Common.{◌≡◌, ℕ, zero, suc, ◌-◌, ◌+◌, ◌≤◌, ◌<◌, List, [], ◌∷◌, ◌++◌, length, Result, Ok, Err, refl, sym, ap, ◌∙◌, arith}
use Rattle.std.proofs.lemmas.List.{length-append}
use Rattle.hera_code_file.specs.declared.stop.Stop.{Stop}
use Rattle.hera_code_file.specs.declared.stop.Stop.TheVariants as stops
use Rattle.hera_code_file.specs.Reading.{Fails, Reader, many}
use Rattle.hera_code_file.proofs.Laws.{bind_ok, ok_is}

pub goes_on : {A : Type 0} (read : List A → Reader A) (count i : ℕ) (before : List A) (bytes : List ℕ) (x : A) (behind : List ℕ) (total : Result (List A × List ℕ) ℕ) → i < count → read before bytes ≡ Ok (x, behind)
    → many read (count - i) before bytes ≡ total → many read (count - (i + 1)) (before ++ x ∷ []) behind ≡ total
goes_on {A} read count i before bytes x behind total lt h so_far =
    let k : count - i ≡ suc (count - (i + 1)) = omega arith in
    let one : many read (count - i) before bytes ≡ many read (count - (i + 1)) (before ++ x ∷ []) behind = rw (k, h) refl in
    sym one ∙ so_far

pub stops_at : {A : Type 0} (e : Stop) (read : List A → Reader A) (count i : ℕ) (before : List A) (bytes : List ℕ) (total : Result (List A × List ℕ) ℕ) → i < count → Fails e (read before bytes)
    → many read (count - i) before bytes ≡ total → Fails e total
stops_at stops.Memory read count i before bytes total lt h so_far = tt
stops_at (stops.Bad left) read count i before bytes total lt h so_far =
    let k : count - i ≡ suc (count - (i + 1)) = omega arith in
    let one : many read (count - i) before bytes ≡ Err left = rw (k, h) refl in
    sym so_far ∙ one

pub is_done : {A : Type 0} (read : List A → Reader A) (count i : ℕ) (before : List A) (bytes : List ℕ) (total : Result (List A × List ℕ) ℕ) → count ≤ i → many read (count - i) before bytes ≡ total → total ≡ Ok (before, bytes)
is_done read count i before bytes total le so_far =
    let k : count - i ≡ 0 = omega arith in
    let one : many read (count - i) before bytes ≡ Ok (before, bytes) = rw k refl in
    sym so_far ∙ one

-- so many were read
pub many_count : {A : Type 0} (read : List A → Reader A) (n : ℕ) (before : List A) (bytes : List ℕ) (all : List A) (rest : List ℕ) → many read n before bytes ≡ Ok (all, rest) → length all ≡ length before + n
many_count {A} read zero before bytes all rest e =
    let same : before ≡ all = ap (λ (p : List A × List ℕ). p.0) (ok_is {A = List A × List ℕ} (before, bytes) (all, rest) e) in
    let size = ap (λ (l : List A). length l) same in
    omega (arith, size)
many_count {A} read (suc n) before bytes all rest e =
    let b = bind_ok (read before bytes) (λ x. many read n (before ++ x.0 ∷ []) x.1) (all, rest) e in
    let more = many_count read n (before ++ b.0.0 ∷ []) b.0.1 all rest b.2 in
    omega (arith, more, length-append before (b.0.0 ∷ []))
