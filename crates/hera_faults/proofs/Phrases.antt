-- The least fault of each phrase.
use Rattle.std.proofs.Common.{◌≡◌, ◌<◌, ◌⊎◌, ⊎_elim, inl, inr, ℕ, ◌+◌, List, [], length, refl, sym, ap, ◌∙◌, subst, arith, Bool, true, false}
use Rattle.std.proofs.lemmas.Bool.{ltb-true, ltb-false, lt-ltb}
use Rattle.std.specs.Prelude.{Option, Some, None, Result, Err, cond, nat_lt}
use Rattle.std.specs.List.{list_all}
use Rattle.hera_meaning.specs.declared.schemas.Attr.{Attr}
use Rattle.hera_meaning.specs.declared.trees.Shape.{Shape}
use Rattle.hera_meaning.specs.declared.trees.Shape.TheVariants.{Int as int, Bool as bool, Text as text, Tuple as tuple, Rel as rel, Delta as delta}
use Rattle.hera_meaning.specs.Relations.{lacking}
use Rattle.hera_meaning.specs.declared.trees.Op.TheVariants.{Group}
use Rattle.hera_meaning.specs.Trees.{Expr, Command, prim, call_proc}
use Rattle.hera_rules.specs.declared.words.Word.{Word}
use Rattle.hera_rules.specs.declared.words.Renamed.{Renamed}
use Rattle.hera_rules.specs.declared.words.Aggregate.{Aggregate}
use Rattle.hera_rules.specs.declared.env.ProcSig.{ProcSig}
use Rattle.hera_rules.specs.declared.fault.TypeFault.{TypeFault}
use Rattle.hera_rules.specs.declared.fault.TypeFault.TheVariants as faults
use Rattle.hera_rules.specs.Environments.{Env, proc_named}
use Rattle.hera_rules.specs.Same.{same_shapes}
use Rattle.hera_rules.specs.Commands.{performed}
use Rattle.hera_rules.specs.Rules.{Typing, typing, given, unless, either, is_rel, is_scalar, types_of, params_of, exprs_from, word_names, old_words, agg_words, measured_words, sums_int, kinds_agree, stranger_in, repeat_in, rename_repeat, result_fault, project_type, group_attrs, places_in, aggs_in, one_expr, rename_of, group_type, join_type, row_row}
use Rattle.hera_faults.specs.Least.{IsFirst, TellsTheLeast, typed, refused}
use Rattle.hera_faults.specs.Broken as broken
use Rattle.hera_faults.specs.Broken.{InOrder, PairsInOrder, IsStranger, stranger, IsRepeat, again, IsRenameRepeat, new_again, old_again, kept_of, BreaksProject, BreaksRename, BreaksGroup, BreaksJoin, BreaksTuple, BreaksPerform, group_names, group_uses, is_other}
use Rattle.hera_faults.proofs.First.{First, none, some, Splits, FailsTo, tells_unless, first_either, tells_given, tells_one, unless_either, either_either}
use Rattle.hera_faults.proofs.Words.{first_stranger, first_repeat, stranger_append, repeat_append, true_or_false}
use Rattle.hera_faults.proofs.Pairs.{first_rename_repeat, old_in_order}

-- ---- ranks

below_repeat : {s : List Attr} {ws : List Word} {seen : List (List ℕ)} {us : List Word} (f g : TypeFault) → IsStranger s ws f → IsRepeat seen us g → IsFirst f g
below_repeat f g (stranger a b w e k) (again c d u h j) = inl (omega arith)

below_pair : {s : List Attr} {ws : List Word} {results olds : List (List ℕ)} {rs : List Renamed} (f g : TypeFault) → IsStranger s ws f → IsRenameRepeat results olds rs g → IsFirst f g
below_pair f g (stranger a b w e k) (new_again c d u h j) = inl (omega arith)
below_pair f g (stranger a b w e k) (old_again c d u h j) = inl (omega arith)

-- the classes of one fault where a fact holds
data Only (P : Type 0) (f : TypeFault) : TypeFault → Type 0 where
  only : P → Only P f f

same_rel : {s t : List Attr} → rel s ≡ rel t → t ≡ s
same_rel e = cc

-- ---- project

no_rel_in : {A : Type 0} (s : List Attr) → is_rel (rel s) ≡ false → A
no_rel_in s e = absurd cc

project_rel : (at : ℕ) (ws : List Word) (e : Expr) (s : List Attr) → InOrder 0 ws → TellsTheLeast (BreaksProject at ws (rel s)) (project_type at ws e (rel s))
project_rel at ws e s o = tells_unless (BreaksProject at ws (rel s)) (IsStranger s ws) (IsRepeat [] ws) (stranger_in s ws) _ parts (first_stranger s 0 ws o)
    (tells_unless (IsRepeat [] ws) (IsRepeat [] ws) (λ f. ⊥) (repeat_in [] ws) _ alone (first_repeat [] 0 ws o) (typed (λ g h. h)))
  where
    split : (f : TypeFault) → BreaksProject at ws (rel s) f → IsStranger s ws f ⊎ IsRepeat [] ws f
    split f (broken.unknown t k h) = inl (subst (λ (t : List Attr). IsStranger t ws f) (same_rel k) h)
    split f (broken.repeated h) = inr h
    split f (broken.no_rel h) = no_rel_in s h

    parts : Splits (BreaksProject at ws (rel s)) (IsStranger s ws) (IsRepeat [] ws)
    parts = record { split = split; left = λ f h. broken.unknown s refl h; right = λ f h. broken.repeated h; before = λ f g x y. below_repeat f g x y }

    alone : Splits (IsRepeat [] ws) (IsRepeat [] ws) (λ f. ⊥)
    alone = record { split = λ f h. inl h; left = λ f h. h; right = λ f h. absurd h; before = λ f g x y. absurd y }

-- an operand that is no rel: what is broken of the words comes before it
pub record IsPlain (at : ℕ) (B C : TypeFault → Type 0) : Type 0 where
  pub split : (f : TypeFault) → B f → C f ⊎ (f ≡ faults.Mismatch at)
  pub left : (f : TypeFault) → C f → B f
  pub here : B (faults.Mismatch at)

tells_plain : (at : ℕ) (B C : TypeFault → Type 0) (o : Option TypeFault) → IsPlain at B C → First C o → ((f : TypeFault) → C f → IsFirst f (faults.Mismatch at))
    → TellsTheLeast {A = Typing} B (unless o (Err (faults.Mismatch at)))
tells_plain at B C o is first before = tells_unless B C (Only Unit (faults.Mismatch at)) o _ parts first (tells_one (Only Unit (faults.Mismatch at)) (faults.Mismatch at) (only tt) (λ g h. same g h))
  where
    same : (g : TypeFault) → Only Unit (faults.Mismatch at) g → g ≡ faults.Mismatch at
    same g (only u) = refl

    back : (f : TypeFault) → Only Unit (faults.Mismatch at) f → B f
    back f (only u) = is.here

    late : (f g : TypeFault) → C f → Only Unit (faults.Mismatch at) g → IsFirst f g
    late f g x (only u) = before f x

    to_only : (f : TypeFault) → f ≡ faults.Mismatch at → Only Unit (faults.Mismatch at) f
    to_only f e = subst (λ (x : TypeFault). Only Unit (faults.Mismatch at) x) (sym e) (only tt)

    parts : Splits B C (Only Unit (faults.Mismatch at))
    parts = record { split = λ f b. ⊎_elim (λ c. inl c) (λ e. inr (to_only f e)) (is.split f b); left = is.left; right = back; before = late }

repeat_before : {seen : List (List ℕ)} {ws : List Word} (at : ℕ) (f : TypeFault) → IsRepeat seen ws f → IsFirst f (faults.Mismatch at)
repeat_before at f (again a b w e k) = inl (omega arith)

repeat_before_many : {seen : List (List ℕ)} {ws : List Word} (at : ℕ) (f : TypeFault) → IsRepeat seen ws f → IsFirst f (faults.TooMany at)
repeat_before_many at f (again a b w e k) = inl (omega arith)

pair_before : {results olds : List (List ℕ)} {rs : List Renamed} (at : ℕ) (f : TypeFault) → IsRenameRepeat results olds rs f → IsFirst f (faults.Mismatch at)
pair_before at f (new_again a b w e k) = inl (omega arith)
pair_before at f (old_again a b w e k) = inl (omega arith)

other_rel : {A : Type 0} (t : Shape) (s : List Attr) → is_rel t ≡ false → t ≡ rel s → A
other_rel t s plain e = no_rel_in s (ap (λ (x : Shape). is_rel x) (sym e) ∙ plain)

project_plain : (at : ℕ) (ws : List Word) (t : Shape) → is_rel t ≡ false → InOrder 0 ws → TellsTheLeast {A = Typing} (BreaksProject at ws t) (unless (repeat_in [] ws) (Err (faults.Mismatch at)))
project_plain at ws t plain o = tells_plain at (BreaksProject at ws t) (IsRepeat [] ws) (repeat_in [] ws) is (first_repeat [] 0 ws o) (λ f x. repeat_before at f x)
  where
    split : (f : TypeFault) → BreaksProject at ws t f → IsRepeat [] ws f ⊎ (f ≡ faults.Mismatch at)
    split f (broken.unknown s k h) = other_rel t s plain k
    split f (broken.repeated h) = inl h
    split f (broken.no_rel h) = inr refl

    is : IsPlain at (BreaksProject at ws t) (IsRepeat [] ws)
    is = record { split = split; left = λ f h. broken.repeated h; here = broken.no_rel plain }

pub project_least : (at : ℕ) (ws : List Word) (e : Expr) (t : Shape) → InOrder 0 ws → TellsTheLeast (BreaksProject at ws t) (project_type at ws e t)
project_least at ws e (rel s) o = project_rel at ws e s o
project_least at ws e int o = project_plain at ws int refl o
project_least at ws e bool o = project_plain at ws bool refl o
project_least at ws e text o = project_plain at ws text refl o
project_least at ws e (tuple s) o = project_plain at ws (tuple s) refl o
project_least at ws e delta o = project_plain at ws delta refl o

-- ---- rename

rename_rel : (at : ℕ) (rs : List Renamed) (e : Expr) (s : List Attr) → PairsInOrder 0 rs → TellsTheLeast (BreaksRename at rs (rel s)) (rename_of at rs e (rel s))
rename_rel at rs e s o = tells_unless (BreaksRename at rs (rel s)) (IsStranger s (old_words rs)) (IsRenameRepeat kept [] rs) (stranger_in s (old_words rs)) _ parts
    (first_stranger s 0 (old_words rs) (old_in_order 0 rs o))
    (tells_unless (IsRenameRepeat kept [] rs) (IsRenameRepeat kept [] rs) (λ f. ⊥) (rename_repeat kept [] rs) _ alone (first_rename_repeat kept [] 0 rs o) (typed (λ g h. h)))
  where
    kept : List (List ℕ)
    kept = kept_of (rel s) rs

    split : (f : TypeFault) → BreaksRename at rs (rel s) f → IsStranger s (old_words rs) f ⊎ IsRenameRepeat kept [] rs f
    split f (broken.unknown t k h) = inl (subst (λ (t : List Attr). IsStranger t (old_words rs) f) (same_rel k) h)
    split f (broken.repeated h) = inr h
    split f (broken.no_rel h) = no_rel_in s h

    parts : Splits (BreaksRename at rs (rel s)) (IsStranger s (old_words rs)) (IsRenameRepeat kept [] rs)
    parts = record { split = split; left = λ f h. broken.unknown s refl h; right = λ f h. broken.repeated h; before = λ f g x y. below_pair f g x y }

    alone : Splits (IsRenameRepeat kept [] rs) (IsRenameRepeat kept [] rs) (λ f. ⊥)
    alone = record { split = λ f h. inl h; left = λ f h. h; right = λ f h. absurd h; before = λ f g x y. absurd y }

rename_plain : (at : ℕ) (rs : List Renamed) (t : Shape) → is_rel t ≡ false → kept_of t rs ≡ [] → PairsInOrder 0 rs
    → TellsTheLeast {A = Typing} (BreaksRename at rs t) (unless (rename_repeat [] [] rs) (Err (faults.Mismatch at)))
rename_plain at rs t plain nil o = tells_plain at (BreaksRename at rs t) (IsRenameRepeat [] [] rs) (rename_repeat [] [] rs) is (first_rename_repeat [] [] 0 rs o) (λ f x. pair_before at f x)
  where
    split : (f : TypeFault) → BreaksRename at rs t f → IsRenameRepeat [] [] rs f ⊎ (f ≡ faults.Mismatch at)
    split f (broken.unknown s k h) = other_rel t s plain k
    split f (broken.repeated h) = inl (subst (λ (z : List (List ℕ)). IsRenameRepeat z [] rs f) nil h)
    split f (broken.no_rel h) = inr refl

    is : IsPlain at (BreaksRename at rs t) (IsRenameRepeat [] [] rs)
    is = record { split = split; left = λ f h. broken.repeated (subst (λ (z : List (List ℕ)). IsRenameRepeat z [] rs f) (sym nil) h); here = broken.no_rel plain }

pub rename_least : (at : ℕ) (rs : List Renamed) (e : Expr) (t : Shape) → PairsInOrder 0 rs → TellsTheLeast (BreaksRename at rs t) (rename_of at rs e t)
rename_least at rs e (rel s) o = rename_rel at rs e s o
rename_least at rs e int o = rename_plain at rs int refl refl o
rename_least at rs e bool o = rename_plain at rs bool refl refl o
rename_least at rs e text o = rename_plain at rs text refl refl o
rename_least at rs e (tuple s) o = rename_plain at rs (tuple s) refl refl o
rename_least at rs e delta o = rename_plain at rs delta refl refl o

-- ---- tuples

-- more than a limit
data IsMany (n at : ℕ) : TypeFault → Type 0 where
  many : 16 < n → IsMany n at (faults.TooMany at)

not_many : {A : Type 0} (n : ℕ) → nat_lt 16 n ≡ false → 16 < n → A
not_many n e l = absurd (true_or_false (nat_lt 16 n) (lt-ltb 16 n l) e)

first_many : (n at : ℕ) → First (IsMany n at) (cond (nat_lt 16 n) (Some (faults.TooMany at)) None)
first_many n at = by (nat_lt 16 n) refl
  where
    no_more : nat_lt 16 n ≡ false → (g : TypeFault) → IsMany n at g → ⊥
    no_more e g (many l) = not_many n e l

    least : (g : TypeFault) → IsMany n at g → IsFirst (faults.TooMany at) g
    least g (many l) = inr (refl, omega arith)

    by : (b : Bool) → nat_lt 16 n ≡ b → First (IsMany n at) (cond b (Some (faults.TooMany at)) None)
    by true e = some (many (ltb-true 16 n e)) least
    by false e = none (no_more e)

-- a test as the first of two
unless_cond : {A : Type 0} (b : Bool) (f : TypeFault) (r : Result A TypeFault) → unless (cond b (Some f) None) r ≡ cond b (Err f) r
unless_cond true f r = refl
unless_cond false f r = refl

data IsManyOr (n at : ℕ) (b : Bool) : TypeFault → Type 0 where
  of_many : {f : TypeFault} → IsMany n at f → IsManyOr n at b f
  of_test : b ≡ false → IsManyOr n at b (faults.Mismatch at)

data IsTest (b : Bool) (f : TypeFault) : TypeFault → Type 0 where
  fails : b ≡ false → IsTest b f f

tells_test : {A : Type 0} (b : Bool) (f : TypeFault) (a : A) → TellsTheLeast (IsTest b f) (given b f a)
tells_test b f a = tells_given (IsTest b f) b f a way (λ e. fails e)
  where
    way : (g : TypeFault) → IsTest b f g → FailsTo b f g
    way g (fails e) = record { fails = e; is = refl }

-- too many, then a test
tells_many : {A : Type 0} (n at : ℕ) (b : Bool) (a : A) → TellsTheLeast (IsManyOr n at b) (cond (nat_lt 16 n) (Err (faults.TooMany at)) (given b (faults.Mismatch at) a))
tells_many n at b a = subst (λ (r : Result _ TypeFault). TellsTheLeast (IsManyOr n at b) r) (unless_cond (nat_lt 16 n) (faults.TooMany at) (given b (faults.Mismatch at) a))
    (tells_unless (IsManyOr n at b) (IsMany n at) (IsTest b (faults.Mismatch at)) _ _ parts (first_many n at) (tells_test b (faults.Mismatch at) a))
  where
    split : (f : TypeFault) → IsManyOr n at b f → IsMany n at f ⊎ IsTest b (faults.Mismatch at) f
    split f (of_many h) = inl h
    split f (of_test e) = inr (fails e)

    right : (f : TypeFault) → IsTest b (faults.Mismatch at) f → IsManyOr n at b f
    right f (fails e) = of_test e

    before : (f g : TypeFault) → IsMany n at f → IsTest b (faults.Mismatch at) g → IsFirst f g
    before f g (many l) (fails e) = inl (omega arith)

    parts : Splits (IsManyOr n at b) (IsMany n at) (IsTest b (faults.Mismatch at))
    parts = record { split = split; left = λ f h. of_many h; right = right; before = before }

repeat_before_rest : {seen : List (List ℕ)} {ws : List Word} (n at : ℕ) (b : Bool) (f g : TypeFault) → IsRepeat seen ws f → IsManyOr n at b g → IsFirst f g
repeat_before_rest n at b f g (again c d w e k) (of_many (many l)) = inl (omega arith)
repeat_before_rest n at b f g (again c d w e k) (of_test h) = inl (omega arith)

pub tuple_least : (at : ℕ) (ws : List Word) (vs : List Typing) → InOrder 0 ws → TellsTheLeast (BreaksTuple at ws vs) (row_row at ws vs)
tuple_least at ws vs o = tells_unless (BreaksTuple at ws vs) (IsRepeat [] ws) (IsManyOr (length ws) at scalars) (repeat_in [] ws) _ parts (first_repeat [] 0 ws o) (tells_many (length ws) at scalars _)
  where
    scalars : Bool
    scalars = list_all is_scalar (types_of vs)

    split : (f : TypeFault) → BreaksTuple at ws vs f → IsRepeat [] ws f ⊎ IsManyOr (length ws) at scalars f
    split f (broken.repeated h) = inl h
    split f (broken.too_many l) = inr (of_many (many l))
    split f (broken.no_scalar e) = inr (of_test e)

    right : (f : TypeFault) → IsManyOr (length ws) at scalars f → BreaksTuple at ws vs f
    right f (of_many (many l)) = broken.too_many l
    right f (of_test e) = broken.no_scalar e

    parts : Splits (BreaksTuple at ws vs) (IsRepeat [] ws) (IsManyOr (length ws) at scalars)
    parts = record { split = split; left = λ f h. broken.repeated h; right = right; before = λ f g x y. repeat_before_rest (length ws) at scalars f g x y }

-- ---- group

-- a result twice, then too many of them
data IsResultFault (at : ℕ) (by : List Word) (aggs : List Aggregate) : TypeFault → Type 0 where
  twice : {f : TypeFault} → IsRepeat [] (group_names by aggs) f → IsResultFault at by aggs f
  beyond : {f : TypeFault} → IsMany (length by + length aggs) at f → IsResultFault at by aggs f

first_result : (at : ℕ) (by : List Word) (aggs : List Aggregate) → InOrder 0 (group_names by aggs) → First (IsResultFault at by aggs) (result_fault at by aggs)
first_result at by aggs o =
    let e : either (repeat_in [] (group_names by aggs)) over ≡ result_fault at by aggs =
    ap (λ (r : Option TypeFault). either r over) (repeat_append [] by (agg_words aggs)) ∙ sym (either_either (repeat_in [] by) (repeat_in (word_names by) (agg_words aggs)) over) in
    subst (λ (r : Option TypeFault). First (IsResultFault at by aggs) r) e
    (first_either (IsResultFault at by aggs) (IsRepeat [] (group_names by aggs)) (IsMany (length by + length aggs) at) _ _ parts (first_repeat [] 0 (group_names by aggs) o) (first_many (length by + length aggs) at))
  where
    over : Option TypeFault
    over = cond (nat_lt 16 (length by + length aggs)) (Some (faults.TooMany at)) None

    split : (f : TypeFault) → IsResultFault at by aggs f → IsRepeat [] (group_names by aggs) f ⊎ IsMany (length by + length aggs) at f
    split f (twice h) = inl h
    split f (beyond h) = inr h

    before : (f g : TypeFault) → IsRepeat [] (group_names by aggs) f → IsMany (length by + length aggs) at g → IsFirst f g
    before f g x (many l) = repeat_before_many at f x

    parts : Splits (IsResultFault at by aggs) (IsRepeat [] (group_names by aggs)) (IsMany (length by + length aggs) at)
    parts = record { split = split; left = λ f h. twice h; right = λ f h. beyond h; before = before }

result_before : (at : ℕ) (by : List Word) (aggs : List Aggregate) (f : TypeFault) → IsResultFault at by aggs f → IsFirst f (faults.Mismatch at)
result_before at by aggs f (twice h) = repeat_before at f h
result_before at by aggs f (beyond (many l)) = inl (omega arith)

below_result : {s : List Attr} {ws : List Word} (at : ℕ) (by : List Word) (aggs : List Aggregate) (f g : TypeFault) → IsStranger s ws f → IsResultFault at by aggs g → IsFirst f g
below_result at by aggs f g x (twice h) = below_repeat f g x h
below_result at by aggs f g (stranger a b w e k) (beyond (many l)) = inl (omega arith)

-- a result's fault, then a test
data IsResultOr (at : ℕ) (by : List Word) (aggs : List Aggregate) (b : Bool) : TypeFault → Type 0 where
  of_result : {f : TypeFault} → IsResultFault at by aggs f → IsResultOr at by aggs b f
  of_sums : b ≡ false → IsResultOr at by aggs b (faults.Mismatch at)

tells_result : {A : Type 0} (at : ℕ) (by : List Word) (aggs : List Aggregate) (b : Bool) (a : A) → InOrder 0 (group_names by aggs)
    → TellsTheLeast (IsResultOr at by aggs b) (unless (result_fault at by aggs) (given b (faults.Mismatch at) a))
tells_result at by aggs b a o = tells_unless (IsResultOr at by aggs b) (IsResultFault at by aggs) (IsTest b (faults.Mismatch at)) _ _ parts (first_result at by aggs o) (tells_test b (faults.Mismatch at) a)
  where
    split : (f : TypeFault) → IsResultOr at by aggs b f → IsResultFault at by aggs f ⊎ IsTest b (faults.Mismatch at) f
    split f (of_result h) = inl h
    split f (of_sums e) = inr (fails e)

    right : (f : TypeFault) → IsTest b (faults.Mismatch at) f → IsResultOr at by aggs b f
    right f (fails e) = of_sums e

    before : (f g : TypeFault) → IsResultFault at by aggs f → IsTest b (faults.Mismatch at) g → IsFirst f g
    before f g x (fails e) = result_before at by aggs f x

    parts : Splits (IsResultOr at by aggs b) (IsResultFault at by aggs) (IsTest b (faults.Mismatch at))
    parts = record { split = split; left = λ f h. of_result h; right = right; before = before }

below_rest : {s : List Attr} {ws : List Word} (at : ℕ) (by : List Word) (aggs : List Aggregate) (b : Bool) (f g : TypeFault) → IsStranger s ws f → IsResultOr at by aggs b g → IsFirst f g
below_rest at by aggs b f g x (of_result h) = below_result at by aggs f g x h
below_rest at by aggs b f g (stranger c d w e k) (of_sums h) = inl (omega arith)

group_rel : (at : ℕ) (by : List Word) (aggs : List Aggregate) (e : Expr) (s : List Attr) → InOrder 0 (group_uses by aggs) → InOrder 0 (group_names by aggs)
    → TellsTheLeast (BreaksGroup at by aggs (rel s)) (group_type at by aggs e (rel s))
group_rel at by aggs e s uses names =
    let u : unless (stranger_in s (group_uses by aggs)) rest ≡ group_type at by aggs e (rel s) =
    ap (λ (o : Option TypeFault). unless o rest) (stranger_append s by (measured_words aggs)) ∙ sym (unless_either (stranger_in s by) (stranger_in s (measured_words aggs)) rest) in
    subst (λ (r : Result Typing TypeFault). TellsTheLeast (BreaksGroup at by aggs (rel s)) r) u
    (tells_unless (BreaksGroup at by aggs (rel s)) (IsStranger s (group_uses by aggs)) (IsResultOr at by aggs sums) _ _ parts (first_stranger s 0 (group_uses by aggs) uses) (tells_result at by aggs sums _ names))
  where
    sums : Bool
    sums = list_all (λ a. sums_int s a.of) aggs

    rest : Result Typing TypeFault
    rest = unless (result_fault at by aggs) (given sums (faults.Mismatch at) (typing (rel (group_attrs s by aggs)) (prim (Group s (places_in s by) (aggs_in s aggs)) (one_expr e) at)))

    split : (f : TypeFault) → BreaksGroup at by aggs (rel s) f → IsStranger s (group_uses by aggs) f ⊎ IsResultOr at by aggs sums f
    split f (broken.unknown t k h) = inl (subst (λ (t : List Attr). IsStranger t (group_uses by aggs) f) (same_rel k) h)
    split f (broken.repeated h) = inr (of_result (twice h))
    split f (broken.too_many l) = inr (of_result (beyond (many l)))
    split f (broken.no_sum t k h) = inr (of_sums (subst (λ (t : List Attr). list_all (λ a. sums_int t a.of) aggs ≡ false) (same_rel k) h))
    split f (broken.no_rel h) = no_rel_in s h

    right : (f : TypeFault) → IsResultOr at by aggs sums f → BreaksGroup at by aggs (rel s) f
    right f (of_result (twice h)) = broken.repeated h
    right f (of_result (beyond (many l))) = broken.too_many l
    right f (of_sums h) = broken.no_sum s refl h

    parts : Splits (BreaksGroup at by aggs (rel s)) (IsStranger s (group_uses by aggs)) (IsResultOr at by aggs sums)
    parts = record { split = split; left = λ f h. broken.unknown s refl h; right = right; before = λ f g x y. below_rest at by aggs sums f g x y }

group_plain : (at : ℕ) (by : List Word) (aggs : List Aggregate) (t : Shape) → is_rel t ≡ false → InOrder 0 (group_names by aggs)
    → TellsTheLeast {A = Typing} (BreaksGroup at by aggs t) (unless (result_fault at by aggs) (Err (faults.Mismatch at)))
group_plain at by aggs t plain o = tells_plain at (BreaksGroup at by aggs t) (IsResultFault at by aggs) (result_fault at by aggs) is (first_result at by aggs o) (λ f x. result_before at by aggs f x)
  where
    split : (f : TypeFault) → BreaksGroup at by aggs t f → IsResultFault at by aggs f ⊎ (f ≡ faults.Mismatch at)
    split f (broken.unknown s k h) = other_rel t s plain k
    split f (broken.repeated h) = inl (twice h)
    split f (broken.too_many l) = inl (beyond (many l))
    split f (broken.no_sum s k h) = other_rel t s plain k
    split f (broken.no_rel h) = inr refl

    left : (f : TypeFault) → IsResultFault at by aggs f → BreaksGroup at by aggs t f
    left f (twice h) = broken.repeated h
    left f (beyond (many l)) = broken.too_many l

    is : IsPlain at (BreaksGroup at by aggs t) (IsResultFault at by aggs)
    is = record { split = split; left = left; here = broken.no_rel plain }

pub group_least : (at : ℕ) (by : List Word) (aggs : List Aggregate) (e : Expr) (t : Shape) → InOrder 0 (group_uses by aggs) → InOrder 0 (group_names by aggs)
    → TellsTheLeast (BreaksGroup at by aggs t) (group_type at by aggs e t)
group_least at by aggs e (rel s) u o = group_rel at by aggs e s u o
group_least at by aggs e int u o = group_plain at by aggs int refl o
group_least at by aggs e bool u o = group_plain at by aggs bool refl o
group_least at by aggs e text u o = group_plain at by aggs text refl o
group_least at by aggs e (tuple s) u o = group_plain at by aggs (tuple s) refl o
group_least at by aggs e delta u o = group_plain at by aggs delta refl o

-- ---- join

join_plain : (at : ℕ) (s t : Shape) → (is_rel s ≡ false) ⊎ (is_rel t ≡ false) → TellsTheLeast {A = Typing} (BreaksJoin at s t) (Err (faults.Mismatch at))
join_plain at s t plain = tells_one (BreaksJoin at s t) (faults.Mismatch at) (broken.no_rel plain) same
  where
    not_rels : {A : Type 0} (a b : List Attr) → s ≡ rel a → t ≡ rel b → A
    not_rels a b e f = ⊎_elim (λ p. other_rel s a p e) (λ p. other_rel t b p f) plain

    same : (g : TypeFault) → BreaksJoin at s t g → g ≡ faults.Mismatch at
    same g (broken.too_many a b e f l) = not_rels a b e f
    same g (broken.kinds_differ a b e f k) = refl
    same g (broken.no_rel h) = refl

-- as the rule tests it: fewer than 17
flip_many : {A : Type 0} (n : ℕ) (x y : A) → cond (nat_lt n 17) x y ≡ cond (nat_lt 16 n) y x
flip_many n x y = by (nat_lt n 17) refl (nat_lt 16 n) refl
  where
    by : (b : Bool) → nat_lt n 17 ≡ b → (c : Bool) → nat_lt 16 n ≡ c → cond b x y ≡ cond c y x
    by true e true f = absurd (let l = ltb-true n 17 e in let m = ltb-true 16 n f in omega (arith, l, m))
    by true e false f = refl
    by false e true f = refl
    by false e false f = absurd (let l = ltb-false n 17 e in let m = ltb-false 16 n f in omega (arith, l, m))

join_rels : (at : ℕ) (e f : Expr) (s t : List Attr) → TellsTheLeast (BreaksJoin at (rel s) (rel t)) (join_type at e f (rel s) (rel t))
join_rels at e f s t = subst (λ (r : Result Typing TypeFault). TellsTheLeast (BreaksJoin at (rel s) (rel t)) r) (sym (flip_many n _ _)) (tells_same (tells_many n at agree _))
  where
    n : ℕ
    n = length s + length (lacking s t)

    agree : Bool
    agree = kinds_agree s t

    both : {a b : List Attr} (P : List Attr → List Attr → Type 0) → rel s ≡ rel a → rel t ≡ rel b → P a b → P s t
    both {a = a} {b = b} P x y p = subst (λ (z : List Attr). P z t) (same_rel x) (subst (λ (z : List Attr). P a z) (same_rel y) p)

    there : (g : TypeFault) → BreaksJoin at (rel s) (rel t) g → IsManyOr n at agree g
    there g (broken.too_many a b x y l) = of_many (many (both (λ a b. 16 < length a + length (lacking a b)) x y l))
    there g (broken.kinds_differ a b x y k) = of_test (both (λ a b. kinds_agree a b ≡ false) x y k)
    there g (broken.no_rel h) = ⊎_elim (no_rel_in s) (no_rel_in t) h

    back : (g : TypeFault) → IsManyOr n at agree g → BreaksJoin at (rel s) (rel t) g
    back g (of_many (many l)) = broken.too_many s t refl refl l
    back g (of_test k) = broken.kinds_differ s t refl refl k

    tells_same : {A : Type 0} {r : Result A TypeFault} → TellsTheLeast (IsManyOr n at agree) r → TellsTheLeast (BreaksJoin at (rel s) (rel t)) r
    tells_same (typed h) = typed (λ g b. h g (there g b))
    tells_same (refused {f = x} h least) = refused (back x h) (λ g b. least g (there g b))

pub join_least : (at : ℕ) (e f : Expr) (s t : Shape) → TellsTheLeast (BreaksJoin at s t) (join_type at e f s t)
join_least at e f (rel s) (rel t) = join_rels at e f s t
join_least at e f (rel s) int = join_plain at (rel s) int (inr refl)
join_least at e f (rel s) bool = join_plain at (rel s) bool (inr refl)
join_least at e f (rel s) text = join_plain at (rel s) text (inr refl)
join_least at e f (rel s) (tuple t) = join_plain at (rel s) (tuple t) (inr refl)
join_least at e f (rel s) delta = join_plain at (rel s) delta (inr refl)
join_least at e f int t = join_plain at int t (inl refl)
join_least at e f bool t = join_plain at bool t (inl refl)
join_least at e f text t = join_plain at text t (inl refl)
join_least at e f (tuple s) t = join_plain at (tuple s) t (inl refl)
join_least at e f delta t = join_plain at delta t (inl refl)

-- ---- call statements

some_is : {A : Type 0} {a b : A} → Some a ≡ Some b → b ≡ a
some_is e = cc

pub perform_least : (g : Env) (func : Bool) (w : Word) (vs : List Typing) → TellsTheLeast (BreaksPerform g func w vs) (performed g func w vs (proc_named w.name g.procs))
perform_least g func w vs = by (proc_named w.name g.procs) refl
  where
    B : TypeFault → Type 0
    B = BreaksPerform g func w vs

    not_there : {A : Type 0} (p : ProcSig) → proc_named w.name g.procs ≡ Some p → proc_named w.name g.procs ≡ None → A
    not_there p e h = absurd (let d : Some p ≡ None = sym e ∙ h in cc)

    -- no proc has the name
    nothing : proc_named w.name g.procs ≡ None → (b : Bool) → is_other g w ≡ b → TellsTheLeast {A = Command} B (cond b (Err (faults.Mismatch w.at)) (Err (faults.Unknown w.at)))
    nothing e true h = tells_one B (faults.Mismatch w.at) (broken.no_proc e h) same
      where
        same : (f : TypeFault) → B f → f ≡ faults.Mismatch w.at
        same f (broken.unknown k j) = true_or_false (is_other g w) h j
        same f (broken.impure p k j) = not_there p k e
        same f (broken.no_proc k j) = refl
        same f (broken.other_types p k j) = not_there p k e
    nothing e false h = tells_one B (faults.Unknown w.at) (broken.unknown e h) same
      where
        same : (f : TypeFault) → B f → f ≡ faults.Unknown w.at
        same f (broken.unknown k j) = refl
        same f (broken.impure p k j) = not_there p k e
        same f (broken.no_proc k j) = true_or_false (is_other g w) j h
        same f (broken.other_types p k j) = not_there p k e

    -- in a func
    in_func : (p : ProcSig) → proc_named w.name g.procs ≡ Some p → func ≡ true → (f : TypeFault) → B f → IsFirst (faults.Impure w.at) f
    in_func p e h f (broken.unknown k j) = not_there p e k
    in_func p e h f (broken.impure q k j) = inr (refl, omega arith)
    in_func p e h f (broken.no_proc k j) = not_there p e k
    in_func p e h f (broken.other_types q k j) = inl (omega arith)

    fails_so : (p : ProcSig) → proc_named w.name g.procs ≡ Some p → func ≡ false → (f : TypeFault) → B f → FailsTo (same_shapes (params_of p.params) (types_of vs)) (faults.Mismatch w.at) f
    fails_so p e h f (broken.unknown k j) = not_there p e k
    fails_so p e h f (broken.impure q k j) = true_or_false func j h
    fails_so p e h f (broken.no_proc k j) = not_there p e k
    fails_so p e h f (broken.other_types q k j) = record {
      fails = subst (λ (x : ProcSig). same_shapes (params_of x.params) (types_of vs) ≡ false) (some_is (sym e ∙ k)) j;
      is = refl;
    }

    there : (p : ProcSig) → proc_named w.name g.procs ≡ Some p → (b : Bool) → func ≡ b → TellsTheLeast {A = Command} B (cond b (Err (faults.Impure w.at)) (given (same_shapes (params_of p.params) (types_of vs)) (faults.Mismatch w.at) (call_proc p.number (exprs_from vs))))
    there p e true h = refused (broken.impure p e h) (in_func p e h)
    there p e false h = tells_given B _ (faults.Mismatch w.at) _ (fails_so p e h) (λ k. broken.other_types p e k)

    by : (p : Option ProcSig) → proc_named w.name g.procs ≡ p → TellsTheLeast B (performed g func w vs p)
    by None e = nothing e (is_other g w) refl
    by (Some p) e = there p e func refl
