-- Parameters, bodies one after the other, and a whole script.
use Rattle.std.proofs.Common.{◌≡◌, ℕ, ◌+◌, ◌<◌, ◌≤◌, List, [], ◌∷◌, ◌++◌, length, get_or, drop, map, refl, sym, ap, ◌∙◌, subst, append_assoc, append-nil, inl, inr}
use Rattle.std.proofs.lemmas.List.{map-append}
use Rattle.std.specs.Prelude.{Ok, Option, Some, None, ◌⊎◌}
use Rattle.hera_host.specs.Tables.{Host, specs_of}
use Rattle.hera_meaning.specs.declared.schemas.Attr.{Attr}
use Rattle.hera_meaning.specs.declared.shapes.BodyShapes.{BodyShapes}
use Rattle.hera_meaning.specs.declared.trees.Shape.{Shape}
use Rattle.hera_meaning.specs.Shapes.{Body_types, body_types, body_shapes, without_names, IsShaped}
use Rattle.hera_meaning.specs.Trees.{Program_tree}
use Rattle.hera_rules.specs.declared.env.FuncSig.{FuncSig}
use Rattle.hera_rules.specs.declared.env.Local.{Local}
use Rattle.hera_rules.specs.declared.env.ProcSig.{ProcSig}
use Rattle.hera_rules.specs.Environments.{Env}
use Rattle.hera_rules.specs.Phrases.{Acts, Func_phrase, Proc_phrase, Script}
use Rattle.hera_rules.specs.Programs.{ElabScript, env_row}
use Rattle.hera_types_parts.proofs.Giving.{next_at, none_at}
use Rattle.hera_sound.specs.Types_found.{Slot, held, param_slots, types_with, types_found}
use Rattle.hera_shapes.specs.Found.{where_typed, with_slots, found_acts, body_found, funcs_found, procs_found, script_found}
use Rattle.hera_shapes.proofs.Adding.{with_none, with_both}

-- ---- parameters

-- a parameter more, and none is left
pub param_step : (ls : List Local) (i : ℕ) (x : Local) (t t' : Body_types) → i < length ls → x ≡ get_or ls i x → t' ≡ with_slots t (held x.shape ∷ []) →
    with_slots t' (param_slots (drop (i + 1) ls)) ≡ with_slots t (param_slots (drop i ls))
param_step ls i x t t' h e f =
    ap (λ u. with_slots u (param_slots (drop (i + 1) ls))) f ∙ with_both t (held x.shape ∷ []) (param_slots (drop (i + 1) ls)) ∙ ap (λ ms. with_slots t (param_slots ms)) (sym (next_at ls i x h e))

pub param_end : (ls : List Local) (i : ℕ) (t : Body_types) → length ls ≤ i → with_slots t (param_slots (drop i ls)) ≡ t
param_end ls i t h = ap (λ ms. with_slots t (param_slots ms)) (none_at ls i h) ∙ with_none t

-- no slots, and then the parameters
pub params_begun : (ls : List Local) (r : Option Shape) {ss : List Shape} {gs : List (Option (List Attr))} → ss ≡ [] → gs ≡ [] → with_slots (record { slots = ss; gathers = gs; result = r }) (param_slots ls) ≡ types_with ls [] r
params_begun ls r {ss = ss} {gs = gs} e k =
    ap (λ ss. with_slots (record { slots = ss; gathers = gs; result = r }) (param_slots ls)) e ∙ ap (λ gs. with_slots (record { slots = []; gathers = gs; result = r }) (param_slots ls)) k
    ∙ ap (λ ps. with_slots (record { slots = []; gathers = []; result = r }) ps) (sym (append-nil (param_slots ls)))

-- the slots of a block behind the parameters
pub behind_params : (ls : List Local) (r : Option Shape) (ss : List Slot) → with_slots (types_with ls [] r) ss ≡ types_with ls ss r
behind_params ls r ss =
    let ps = param_slots ls in
    let made : Body_types = record { slots = []; gathers = []; result = r } in
    ap (λ t. with_slots t ss) (ap (λ ps. with_slots made ps) (append-nil ps)) ∙ with_both made ps ss

pub body_whole : (g : Env) (params : List Local) (r : Option Shape) (block : Acts) (ls : List Local) (n : ℕ) (t t' : Body_types) → t ≡ types_with params [] r → ls ≡ params → n ≡ length params →
    t' ≡ with_slots t (found_acts g ls n block) → t' ≡ body_found g params r (length params) block
body_whole g params r block ls n t t' e l k h =
    h ∙ ap (λ ls. with_slots t (found_acts g ls n block)) l ∙ ap (λ n. with_slots t (found_acts g params n block)) k ∙ ap (λ t. with_slots t (found_acts g params (length params) block)) e
    ∙ behind_params params r (found_acts g params (length params) block)

-- ---- bodies one after the other

-- one more stands behind these
one_more : (all all' : List BodyShapes) (b : BodyShapes) {t : Body_types} → all' ≡ all ++ b ∷ [] → body_types b ≡ t → map body_types all' ≡ map body_types all ++ t ∷ []
one_more all all' b e f = ap (λ bs. map body_types bs) e ∙ map-append body_types all (b ∷ []) ∙ ap (λ t. map body_types all ++ t ∷ []) f

turn : (front front' rest : List Body_types) (t : Body_types) {whole : List Body_types} → front' ≡ front ++ t ∷ [] → whole ≡ t ∷ rest → front' ++ rest ≡ front ++ whole
turn front front' rest t e w = ap (λ xs. xs ++ rest) e ∙ append_assoc front (t ∷ []) rest ∙ ap (λ xs. front ++ xs) (sym w)

pub funcs_turn : {A : Type 0} (g : Env) (f : A → Func_phrase) (sigs : List FuncSig) (xs : List A) (i : ℕ) (sig : FuncSig) (x : A) (all all' : List BodyShapes) (b : BodyShapes) →
    i < length sigs → sig ≡ get_or sigs i sig → i < length xs → x ≡ get_or xs i x → all' ≡ all ++ b ∷ [] → body_types b ≡ body_found g sig.params (Some sig.result) (length sig.params) (f x).block →
    map body_types all' ++ funcs_found g (drop (i + 1) sigs) (map f (drop (i + 1) xs)) ≡ map body_types all ++ funcs_found g (drop i sigs) (map f (drop i xs))
funcs_turn g f sigs xs i sig x all all' b h e k d p q =
    let rest = funcs_found g (drop (i + 1) sigs) (map f (drop (i + 1) xs)) in
    let own = body_found g sig.params (Some sig.result) (length sig.params) (f x).block in
    let whole : funcs_found g (drop i sigs) (map f (drop i xs)) ≡ own ∷ rest =
    ap (λ ss. funcs_found g ss (map f (drop i xs))) (next_at sigs i sig h e) ∙ ap (λ ys. funcs_found g (sig ∷ drop (i + 1) sigs) (map f ys)) (next_at xs i x k d) in
    turn (map body_types all) (map body_types all') rest own (one_more all all' b p q) whole

pub procs_turn : {A : Type 0} (g : Env) (f : A → Proc_phrase) (sigs : List ProcSig) (xs : List A) (i : ℕ) (sig : ProcSig) (x : A) (all all' : List BodyShapes) (b : BodyShapes) →
    i < length sigs → sig ≡ get_or sigs i sig → i < length xs → x ≡ get_or xs i x → all' ≡ all ++ b ∷ [] → body_types b ≡ body_found g sig.params None (length sig.params) (f x).block →
    map body_types all' ++ procs_found g (drop (i + 1) sigs) (map f (drop (i + 1) xs)) ≡ map body_types all ++ procs_found g (drop i sigs) (map f (drop i xs))
procs_turn g f sigs xs i sig x all all' b h e k d p q =
    let rest = procs_found g (drop (i + 1) sigs) (map f (drop (i + 1) xs)) in
    let own = body_found g sig.params None (length sig.params) (f x).block in
    let whole : procs_found g (drop i sigs) (map f (drop i xs)) ≡ own ∷ rest =
    ap (λ ss. procs_found g ss (map f (drop i xs))) (next_at sigs i sig h e) ∙ ap (λ ys. procs_found g (sig ∷ drop (i + 1) sigs) (map f ys)) (next_at xs i x k d) in
    turn (map body_types all) (map body_types all') rest own (one_more all all' b p q) whole

-- one of the two lists is at its end
funcs_no_tree : (g : Env) (sigs : List FuncSig) → funcs_found g sigs [] ≡ []
funcs_no_tree g [] = refl
funcs_no_tree g (sig ∷ sigs) = refl

procs_no_tree : (g : Env) (sigs : List ProcSig) → procs_found g sigs [] ≡ []
procs_no_tree g [] = refl
procs_no_tree g (sig ∷ sigs) = refl

funcs_none : {A : Type 0} (g : Env) (f : A → Func_phrase) (sigs : List FuncSig) (xs : List A) (i : ℕ) → ((length sigs ≤ i) ⊎ (length xs ≤ i)) → funcs_found g (drop i sigs) (map f (drop i xs)) ≡ []
funcs_none g f sigs xs i (inl h) = ap (λ ss. funcs_found g ss (map f (drop i xs))) (none_at sigs i h)
funcs_none g f sigs xs i (inr h) = ap (λ ys. funcs_found g (drop i sigs) (map f ys)) (none_at xs i h) ∙ funcs_no_tree g (drop i sigs)

procs_none : {A : Type 0} (g : Env) (f : A → Proc_phrase) (sigs : List ProcSig) (xs : List A) (i : ℕ) → ((length sigs ≤ i) ⊎ (length xs ≤ i)) → procs_found g (drop i sigs) (map f (drop i xs)) ≡ []
procs_none g f sigs xs i (inl h) = ap (λ ss. procs_found g ss (map f (drop i xs))) (none_at sigs i h)
procs_none g f sigs xs i (inr h) = ap (λ ys. procs_found g (drop i sigs) (map f ys)) (none_at xs i h) ∙ procs_no_tree g (drop i sigs)

pub funcs_end : {A : Type 0} (g : Env) (f : A → Func_phrase) (sigs : List FuncSig) (xs : List A) (i : ℕ) (all : List Body_types) → ((length sigs ≤ i) ⊎ (length xs ≤ i)) →
    all ≡ all ++ funcs_found g (drop i sigs) (map f (drop i xs))
funcs_end g f sigs xs i all h = sym (append-nil all) ∙ ap (λ ts. all ++ ts) (sym (funcs_none g f sigs xs i h))

pub procs_end : {A : Type 0} (g : Env) (f : A → Proc_phrase) (sigs : List ProcSig) (xs : List A) (i : ℕ) (all : List Body_types) → ((length sigs ≤ i) ⊎ (length xs ≤ i)) →
    all ≡ all ++ procs_found g (drop i sigs) (map f (drop i xs))
procs_end g f sigs xs i all h = sym (append-nil all) ∙ ap (λ ts. all ++ ts) (sym (procs_none g f sigs xs i h))

-- ---- a whole script

pub script_whole : (hosts : List Host) (s : Script) (g : Env) {all : List Body_types} → env_row hosts s ≡ Ok g → all ≡ body_found g [] None 0 s.main ∷ (funcs_found g g.funcs s.funcs ++ procs_found g g.procs s.procs) →
    all ≡ script_found hosts s
script_whole hosts s g e h = h ∙ ap (λ x. where_typed x (λ g. body_found g [] None 0 s.main ∷ (funcs_found g g.funcs s.funcs ++ procs_found g g.procs s.procs))) (sym e)

-- main, then the funcs, then the procs
pub joined : (funcs procs : List Body_types) {x y z : List Body_types} {main : Body_types} → x ≡ main ∷ [] → y ≡ x ++ funcs → z ≡ y ++ procs → z ≡ main ∷ (funcs ++ procs)
joined funcs procs a b c = c ∙ ap (λ xs. xs ++ procs) (b ∙ ap (λ xs. xs ++ funcs) a)

-- with attribute names left out
forgotten : (all : List BodyShapes) → map body_shapes all ≡ map without_names (map body_types all)
forgotten [] = refl
forgotten (b ∷ all) = ap (λ ts. body_shapes b ∷ ts) (forgotten all)

pub shaped_so : {p : Program_tree} {hosts : List Host} {s : Script} (typed : ElabScript hosts s p) (all : List BodyShapes) → map body_types all ≡ types_found typed → IsShaped p (specs_of hosts) (map without_names (types_found typed)) →
    IsShaped p (specs_of hosts) (map body_shapes all)
shaped_so {p = p} {hosts = hosts} typed all e h = subst (λ ts. IsShaped p (specs_of hosts) ts) (ap (λ ts. map without_names ts) (sym e) ∙ sym (forgotten all)) h
