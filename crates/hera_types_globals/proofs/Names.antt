-- Names of declarations, and whether one of them is a name.
use Rattle.std.proofs.Common.{◌≡◌, ℕ, ◌+◌, List, [], ◌∷◌, map, refl, ap, ◌∙◌, Bool, true, false, cond}
use Rattle.std.specs.Prelude.{Option, Some, None, is_some, ◌||◌}
use Rattle.std.specs.Option.{option_map}
use Rattle.std.specs.List.{list_any, position_from}
use Rattle.hera_syntax.specs.declared.tree.Func.{Func}
use Rattle.hera_syntax.specs.declared.tree.Proc.{Proc}
use Rattle.hera_rules.specs.Phrases.{Func_phrase, Proc_phrase}
use Rattle.hera_rules.specs.ReadActs.{func_phrase, proc_phrase}
use Rattle.hera_types_globals.specs.Passes.{func_names, proc_names}

first_or : {A : Type 0} (b : Bool) (x : A) (rest : Option A) → is_some (cond b (Some x) rest) ≡ (b || is_some rest)
first_or true x rest = refl
first_or false x rest = refl

-- a test that passes somewhere has a first place
pub some-position : {A : Type 0} (test : A → Bool) (i : ℕ) (xs : List A) → is_some (position_from test i xs) ≡ list_any test xs
some-position test i [] = refl
some-position test i (x ∷ xs) = first_or (test x) i (position_from test (i + 1) xs) ∙ ap (λ b. test x || b) (some-position test (i + 1) xs)

pub some-map : {A B : Type 0} (f : A → B) (o : Option A) → is_some (option_map f o) ≡ is_some o
some-map f None = refl
some-map f (Some x) = refl

-- the names of phrases are those of their trees
pub names-of_funcs : (fs : List Func) → map (λ (f : Func_phrase). f.name) (map func_phrase fs) ≡ func_names fs
names-of_funcs [] = refl
names-of_funcs (f ∷ fs) = ap (λ r. (func_phrase f).name ∷ r) (names-of_funcs fs)

pub names-of_procs : (ps : List Proc) → map (λ (p : Proc_phrase). p.name) (map proc_phrase ps) ≡ proc_names ps
names-of_procs [] = refl
names-of_procs (p ∷ ps) = ap (λ r. (proc_phrase p).name ∷ r) (names-of_procs ps)
