-- Each script is typed or has a first fault, and the function says which; so each is one at most, and not both.
use Rattle.std.proofs.Common.{◌≡◌, List, [], ◌∷◌, ◌++◌, refl, sym, ◌∙◌, inl, inr, true, false}
use Rattle.std.specs.Prelude.{Result, Ok, Err, Option, Some, None, ◌⊎◌, length}
use Rattle.hera_meaning.specs.declared.trees.Shape.{Shape}
use Rattle.hera_meaning.specs.Trees.{Command, Body_tree, Program_tree}
use Rattle.hera_host.specs.Tables.{Host}
use Rattle.hera_rules.specs.declared.env.Local.{Local}
use Rattle.hera_rules.specs.declared.env.FuncSig.{FuncSig}
use Rattle.hera_rules.specs.declared.env.ProcSig.{ProcSig}
use Rattle.hera_rules.specs.declared.fault.TypeFault.{TypeFault}
use Rattle.hera_rules.specs.Environments.{Env}
use Rattle.hera_rules.specs.Phrases.{Acts, Func_phrase, Proc_phrase, Script}
use Rattle.hera_rules.specs.Checked.{and_then}
use Rattle.hera_rules.specs.Programs.{env_row, body_with, returns_row, program_with, ElabBody, FirstBody, ElabFuncs, ElabProcs, FirstFuncs, FirstProcs, ElabScript, FirstFault, no_func_is, no_func_left, func_is, no_proc_is, no_proc_left, proc_is, in_func, func_breaks, in_later_func, in_proc, in_later_proc, script_is, in_env, in_funcs, in_procs, in_main}
use Rattle.hera_rules.specs.CheckedScripts.{check_body, check_funcs, check_procs, check_script}
use Rattle.hera_rules.proofs.DecidesActs.{check-ElabActs, check-FirstActs}
use Rattle.hera_rules.proofs.Decided.{Says, after, after_row, handed}
use Rattle.hera_rules.proofs.DecidedActs.{decided_acts}

behind_body : {B : Type 0} (Q : B → Type 0) (G : TypeFault → Type 0) (g : Env) (r : Option Shape) (params : List Local) (block : Acts) (go : List Command → Result B TypeFault) →
    ((cs : List Command) → ElabBody g r params block cs → Says (go cs) Q G) → ((f : TypeFault) → FirstBody g r params block f → G f) → Says (and_then (check_body g r params block) go) Q G
behind_body Q G g r params block go ok err =
    after {P = λ cs. ElabBody g r params block cs} {F = λ f. FirstBody g r params block f} Q G (check_body g r params block) go (decided_acts g r params (length params) [] block) ok err

decided_funcs : (g : Env) (bodies : List Body_tree) (sigs : List FuncSig) (fs : List Func_phrase) →
    Says (check_funcs g bodies sigs fs) (λ all. ElabFuncs g bodies sigs fs all) (λ f. FirstFuncs g bodies sigs fs f)
decided_funcs g bodies [] fs = no_func_is
decided_funcs g bodies (sig ∷ sigs) [] = no_func_left
decided_funcs g bodies (sig ∷ sigs) (f ∷ fs) =
    let Q : List Body_tree → Type 0 = λ all. ElabFuncs g bodies (sig ∷ sigs) (f ∷ fs) all in
    let G : TypeFault → Type 0 = λ x. FirstFuncs g bodies (sig ∷ sigs) (f ∷ fs) x in
    behind_body Q G g (Some sig.result) sig.params f.block
    (λ cs. and_then (returns_row f.name.at cs) (λ ds. check_funcs g (bodies ++ body_with sig.params true f.block ds ∷ []) sigs fs))
    (λ cs e. after_row Q G (returns_row f.name.at cs) (λ ds. check_funcs g (bodies ++ body_with sig.params true f.block ds ∷ []) sigs fs)
    (λ ds h. handed {P = λ all. ElabFuncs g (bodies ++ body_with sig.params true f.block ds ∷ []) sigs fs all}
    {F = λ x. FirstFuncs g (bodies ++ body_with sig.params true f.block ds ∷ []) sigs fs x} Q G
    (check_funcs g (bodies ++ body_with sig.params true f.block ds ∷ []) sigs fs)
    (decided_funcs g (bodies ++ body_with sig.params true f.block ds ∷ []) sigs fs) (λ all k. func_is e h k) (λ x d. in_later_func e h d))
    (λ x h. func_breaks e h))
    (λ x d. in_func d)

decided_procs : (g : Env) (bodies : List Body_tree) (sigs : List ProcSig) (ps : List Proc_phrase) →
    Says (check_procs g bodies sigs ps) (λ all. ElabProcs g bodies sigs ps all) (λ f. FirstProcs g bodies sigs ps f)
decided_procs g bodies [] fs = no_proc_is
decided_procs g bodies (sig ∷ sigs) [] = no_proc_left
decided_procs g bodies (sig ∷ sigs) (f ∷ fs) =
    let Q : List Body_tree → Type 0 = λ all. ElabProcs g bodies (sig ∷ sigs) (f ∷ fs) all in
    let G : TypeFault → Type 0 = λ x. FirstProcs g bodies (sig ∷ sigs) (f ∷ fs) x in
    behind_body Q G g None sig.params f.block (λ cs. check_procs g (bodies ++ body_with sig.params false f.block cs ∷ []) sigs fs)
    (λ cs e. handed {P = λ all. ElabProcs g (bodies ++ body_with sig.params false f.block cs ∷ []) sigs fs all}
    {F = λ x. FirstProcs g (bodies ++ body_with sig.params false f.block cs ∷ []) sigs fs x} Q G
    (check_procs g (bodies ++ body_with sig.params false f.block cs ∷ []) sigs fs)
    (decided_procs g (bodies ++ body_with sig.params false f.block cs ∷ []) sigs fs) (λ all k. proc_is e k) (λ x d. in_later_proc e d))
    (λ x d. in_proc d)

pub decided_script : (hosts : List Host) (s : Script) → Says (check_script hosts s) (λ p. ElabScript hosts s p) (λ f. FirstFault hosts s f)
decided_script hosts s =
    let Q : Program_tree → Type 0 = λ p. ElabScript hosts s p in
    let G : TypeFault → Type 0 = λ f. FirstFault hosts s f in
    after_row Q G (env_row hosts s) (λ g. and_then (check_funcs g [] g.funcs s.funcs) (λ funcs. and_then (check_procs g funcs g.procs s.procs) (λ all.
    and_then (check_body g None [] s.main) (λ cs. Ok (program_with g s cs all)))))
    (λ g e. after {P = λ funcs. ElabFuncs g [] g.funcs s.funcs funcs} {F = λ f. FirstFuncs g [] g.funcs s.funcs f} Q G (check_funcs g [] g.funcs s.funcs)
    (λ funcs. and_then (check_procs g funcs g.procs s.procs) (λ all. and_then (check_body g None [] s.main) (λ cs. Ok (program_with g s cs all))))
    (decided_funcs g [] g.funcs s.funcs)
    (λ funcs x. after {P = λ all. ElabProcs g funcs g.procs s.procs all} {F = λ f. FirstProcs g funcs g.procs s.procs f} Q G (check_procs g funcs g.procs s.procs)
    (λ all. and_then (check_body g None [] s.main) (λ cs. Ok (program_with g s cs all))) (decided_procs g funcs g.procs s.procs)
    (λ all y. behind_body Q G g None [] s.main (λ cs. Ok (program_with g s cs all)) (λ cs b. script_is e x y b) (λ f d. in_main e x y d))
    (λ f d. in_procs e x d))
    (λ f d. in_funcs e d))
    (λ f h. in_env h)

check-ElabFuncs : {g : Env} {bodies all : List Body_tree} {sigs : List FuncSig} {fs : List Func_phrase} → ElabFuncs g bodies sigs fs all → check_funcs g bodies sigs fs ≡ Ok all
check-ElabFuncs no_func_is = refl
check-ElabFuncs no_func_left = refl
check-ElabFuncs (func_is e h k) = rw (check-ElabActs e, h) (check-ElabFuncs k)

check-ElabProcs : {g : Env} {bodies all : List Body_tree} {sigs : List ProcSig} {ps : List Proc_phrase} → ElabProcs g bodies sigs ps all → check_procs g bodies sigs ps ≡ Ok all
check-ElabProcs no_proc_is = refl
check-ElabProcs no_proc_left = refl
check-ElabProcs (proc_is e k) = rw (check-ElabActs e) (check-ElabProcs k)

check-FirstFuncs : {g : Env} {bodies : List Body_tree} {sigs : List FuncSig} {fs : List Func_phrase} {f : TypeFault} → FirstFuncs g bodies sigs fs f → check_funcs g bodies sigs fs ≡ Err f
check-FirstFuncs (in_func d) = rw (check-FirstActs d) refl
check-FirstFuncs (func_breaks e h) = rw (check-ElabActs e, h) refl
check-FirstFuncs (in_later_func e h d) = rw (check-ElabActs e, h) (check-FirstFuncs d)

check-FirstProcs : {g : Env} {bodies : List Body_tree} {sigs : List ProcSig} {ps : List Proc_phrase} {f : TypeFault} → FirstProcs g bodies sigs ps f → check_procs g bodies sigs ps ≡ Err f
check-FirstProcs (in_proc d) = rw (check-FirstActs d) refl
check-FirstProcs (in_later_proc e d) = rw (check-ElabActs e) (check-FirstProcs d)

pub check-ElabScript : {hosts : List Host} {s : Script} {p : Program_tree} → ElabScript hosts s p → check_script hosts s ≡ Ok p
check-ElabScript (script_is e x y b) = rw (e, check-ElabFuncs x, check-ElabProcs y, check-ElabActs b) refl

pub check-FirstFault : {hosts : List Host} {s : Script} {f : TypeFault} → FirstFault hosts s f → check_script hosts s ≡ Err f
check-FirstFault (in_env h) = rw h refl
check-FirstFault (in_funcs e d) = rw (e, check-FirstFuncs d) refl
check-FirstFault (in_procs e x d) = rw (e, check-ElabFuncs x, check-FirstProcs d) refl
check-FirstFault (in_main e x y d) = rw (e, check-ElabFuncs x, check-ElabProcs y, check-FirstActs d) refl

pub one_program : {hosts : List Host} {s : Script} {p q : Program_tree} → ElabScript hosts s p → ElabScript hosts s q → p ≡ q
one_program e e' = let h = sym (check-ElabScript e) ∙ check-ElabScript e' in cc

pub never_accepted_and_refused : {hosts : List Host} {s : Script} {p : Program_tree} {f : TypeFault} → ElabScript hosts s p → FirstFault hosts s f → ⊥
never_accepted_and_refused e d = let h = sym (check-ElabScript e) ∙ check-FirstFault d in cc

pub one_first_fault : {hosts : List Host} {s : Script} {f f' : TypeFault} → FirstFault hosts s f → FirstFault hosts s f' → f ≡ f'
one_first_fault d d' = let h = sym (check-FirstFault d) ∙ check-FirstFault d' in cc

said : {A : Type 0} {P : A → Type 0} {F : TypeFault → Type 0} (r : Result A TypeFault) → Says r P F → ((a : A) × P a) ⊎ ((f : TypeFault) × F f)
said (Ok a) h = inl (a, h)
said (Err f) h = inr (f, h)

pub accepted_or_refused : (hosts : List Host) (s : Script) → ((p : Program_tree) × ElabScript hosts s p) ⊎ ((f : TypeFault) × FirstFault hosts s f)
accepted_or_refused hosts s = said {P = λ p. ElabScript hosts s p} {F = λ f. FirstFault hosts s f} (check_script hosts s) (decided_script hosts s)
