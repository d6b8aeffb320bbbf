-- Bodies that are made of their blocks.
use Rattle.std.proofs.Common.{◌≡◌, ℕ, ◌+◌, List, [], ◌∷◌, length, refl, sym, ap, ◌∙◌, Bool, true, false, cond}
use Rattle.std.specs.Prelude.{Option, Some, None, Result, Ok, Err, is_some}
use Rattle.hera_meaning.specs.declared.trees.Shape.{Shape}
use Rattle.hera_meaning.specs.Trees.{Command, Block, Body_tree}
use Rattle.hera_host.specs.Tables.{Host}
use Rattle.hera_meaning.specs.Sound.{returns}
use Rattle.hera_rules.specs.declared.env.Local.{Local}
use Rattle.hera_rules.specs.declared.env.FuncSig.{FuncSig}
use Rattle.hera_rules.specs.declared.fault.TypeFault.{TypeFault}
use Rattle.hera_rules.specs.declared.fault.TypeFault.TheVariants.{NoReturn as no_return}
use Rattle.hera_rules.specs.Environments.{Env}
use Rattle.hera_rules.specs.Phrases.{Acts, Func_phrase, Script}
use Rattle.hera_rules.specs.Commands.{block_from}
use Rattle.hera_rules.specs.Statements.{slots_of_acts}
use Rattle.hera_rules.specs.Checked.{and_then}
use Rattle.hera_rules.specs.CheckedActs.{check_acts}
use Rattle.hera_rules.specs.CheckedScripts.{check_body, check_funcs, check_procs, check_script}
use Rattle.hera_rules.specs.Programs.{returns_row, body_with, env_row, program_with}
use Rattle.hera_types.specs.Passes.{body_row, func_body_row}

pub body_done : (g : Env) (r : Option Shape) (params ls : List Local) (n s : ℕ) (f : Bool) (b : Block) (block : Acts) {cs : List Command} →
    ls ≡ params → n ≡ length params → check_acts g r ls n [] block ≡ Ok cs → s ≡ n + slots_of_acts block → f ≡ is_some r → b ≡ block_from cs →
    body_row g r params block ≡ Ok (record { params = n; slots = s; func = f; block = b })
body_done g r params ls n s f b block {cs = cs} l e k h j i =
    let whole : check_body g r params block ≡ Ok cs = ap (λ ls. check_acts g r ls (length params) [] block) (sym l) ∙ ap (λ n. check_acts g r ls n [] block) (sym e) ∙ k in
    ap (λ v. and_then v (λ cs. Ok (body_with params (is_some r) block cs))) whole
    ∙ ap (λ n. Ok (record { params = n; slots = n + slots_of_acts block; func = is_some r; block = block_from cs })) (sym e)
    ∙ ap (λ s. Ok (record { params = n; slots = s; func = is_some r; block = block_from cs })) (sym h)
    ∙ ap (λ f. Ok (record { params = n; slots = s; func = f; block = block_from cs })) (sym j)
    ∙ ap (λ b. Ok (record { params = n; slots = s; func = f; block = b })) (sym i)

pub body_breaks : (g : Env) (r : Option Shape) (params ls : List Local) (n : ℕ) (block : Acts) {f : TypeFault} →
    ls ≡ params → n ≡ length params → check_acts g r ls n [] block ≡ Err f → body_row g r params block ≡ Err f
body_breaks g r params ls n block {f = f} l e k =
    let whole : check_body g r params block ≡ Err f = ap (λ ls. check_acts g r ls (length params) [] block) (sym l) ∙ ap (λ n. check_acts g r ls n [] block) (sym e) ∙ k in
    ap (λ v. and_then v (λ cs. Ok (body_with params (is_some r) block cs))) whole

-- a func's body, by what its last statement does
returned : (params : List Local) (block : Acts) (at : ℕ) (v : Result (List Command) TypeFault) (b : Body_tree) (answer : Bool) →
    and_then v (λ cs. Ok (body_with params true block cs)) ≡ Ok b → returns b.block ≡ answer →
    and_then v (λ cs. and_then (returns_row at cs) (λ ds. Ok (body_with params true block ds))) ≡ cond answer (Ok b) (Err (no_return at))
returned params block at (Err f) b answer e k = absurd cc
returned params block at (Ok cs) b answer e k =
    let same : body_with params true block cs ≡ b = cc in
    let so : returns (block_from cs) ≡ answer = ap (λ (b : Body_tree). returns b.block) same ∙ k in
    decide answer so same
  where
    decide : (answer : Bool) → returns (block_from cs) ≡ answer → body_with params true block cs ≡ b →
        and_then (returns_row at cs) (λ ds. Ok (body_with params true block ds)) ≡ cond answer (Ok b) (Err (no_return at))
    decide true so same = rw so (ap (λ b. Ok b) same)
    decide false so same = rw so refl

pub func_done : (g : Env) (sig : FuncSig) (f : Func_phrase) (b : Body_tree) → body_row g (Some sig.result) sig.params f.block ≡ Ok b → returns b.block ≡ true → func_body_row g sig f ≡ Ok b
func_done g sig f b e k = returned sig.params f.block f.name.at (check_body g (Some sig.result) sig.params f.block) b true e k

pub func_no_return : (g : Env) (sig : FuncSig) (f : Func_phrase) (b : Body_tree) → body_row g (Some sig.result) sig.params f.block ≡ Ok b → returns b.block ≡ false → func_body_row g sig f ≡ Err (no_return f.name.at)
func_no_return g sig f b e k = returned sig.params f.block f.name.at (check_body g (Some sig.result) sig.params f.block) b false e k

broken : (params : List Local) (block : Acts) (at : ℕ) (v : Result (List Command) TypeFault) (f : TypeFault) → and_then v (λ cs. Ok (body_with params true block cs)) ≡ Err f →
    and_then v (λ cs. and_then (returns_row at cs) (λ ds. Ok (body_with params true block ds))) ≡ Err f
broken params block at (Err g) f e = e
broken params block at (Ok cs) f e = absurd cc

pub func_breaks : (g : Env) (sig : FuncSig) (p : Func_phrase) {f : TypeFault} → body_row g (Some sig.result) sig.params p.block ≡ Err f → func_body_row g sig p ≡ Err f
func_breaks g sig p {f = f} e = broken sig.params p.block p.name.at (check_body g (Some sig.result) sig.params p.block) f e

-- ---- the passes, one after the other

main_is : (g : Env) (s : Script) (all : List Body_tree) (v : Result (List Command) TypeFault) (b : Body_tree) → and_then v (λ cs. Ok (body_with [] (is_some {T = Shape} None) s.main cs)) ≡ Ok b →
    and_then v (λ cs. Ok (program_with g s cs all)) ≡ Ok (record { relations = g.relations; bodies = b ∷ all })
main_is g s all (Err f) b e = absurd cc
main_is g s all (Ok cs) b e = let same : body_with [] false s.main cs ≡ b = cc in ap (λ b. Ok (record { relations = g.relations; bodies = b ∷ all })) same

main_breaks : (g : Env) (s : Script) (all : List Body_tree) (v : Result (List Command) TypeFault) (f : TypeFault) → and_then v (λ cs. Ok (body_with [] (is_some {T = Shape} None) s.main cs)) ≡ Err f →
    and_then v (λ cs. Ok (program_with g s cs all)) ≡ Err f
main_breaks g s all (Err h) f e = let same : h ≡ f = cc in ap (λ f. Err f) same
main_breaks g s all (Ok cs) f e = absurd cc

module _ (hosts : List Host) (s : Script) where
  pub script_env : {f : TypeFault} → env_row hosts s ≡ Err f → check_script hosts s ≡ Err f
  script_env e = rw e refl

  pub script_funcs : {g : Env} {f : TypeFault} → env_row hosts s ≡ Ok g → check_funcs g [] g.funcs s.funcs ≡ Err f → check_script hosts s ≡ Err f
  script_funcs e x = rw (e, x) refl

  pub script_procs : {g : Env} {funcs : List Body_tree} {f : TypeFault} → env_row hosts s ≡ Ok g → check_funcs g [] g.funcs s.funcs ≡ Ok funcs → check_procs g funcs g.procs s.procs ≡ Err f → check_script hosts s ≡ Err f
  script_procs e x y = rw (e, x, y) refl

  pub script_main : {g : Env} {funcs all : List Body_tree} {f : TypeFault} → env_row hosts s ≡ Ok g → check_funcs g [] g.funcs s.funcs ≡ Ok funcs → check_procs g funcs g.procs s.procs ≡ Ok all →
      body_row g None [] s.main ≡ Err f → check_script hosts s ≡ Err f
  script_main {g = g} {all = all} {f = f} e x y h = rw (e, x, y) (main_breaks g s all (check_body g None [] s.main) f h)

  pub script_done : {g : Env} {funcs all : List Body_tree} {b : Body_tree} → env_row hosts s ≡ Ok g → check_funcs g [] g.funcs s.funcs ≡ Ok funcs → check_procs g funcs g.procs s.procs ≡ Ok all →
      body_row g None [] s.main ≡ Ok b → check_script hosts s ≡ Ok (record { relations = g.relations; bodies = b ∷ all })
  script_done {g = g} {all = all} {b = b} e x y h = rw (e, x, y) (main_is g s all (check_body g None [] s.main) b h)
