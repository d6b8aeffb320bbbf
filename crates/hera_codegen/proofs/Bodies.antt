-- The bodies of a program, one behind another.
use Rattle.std.proofs.Common.{◌≡◌, ◌<◌, ◌≤◌, ℕ, zero, suc, ◌+◌, Bool, true, false, List, [], ◌∷◌, ◌++◌, map, length, drop, get_or, refl, sym, ap, ◌∙◌, arith, add-one, append_assoc, append-nil, length-append}
use Rattle.hera_meaning.specs.declared.trees.Body.{Body}
use Rattle.hera_meaning.specs.declared.schemas.RelDecl.{RelDecl}
use Rattle.hera_meaning.specs.Trees.{Block, Body_tree}
use Rattle.hera_meaning.specs.Plain.{body_of, block_in}
use Rattle.hera_meaning.specs.Addresses.{block_end, body_end, bodies_end, size_of}
use Rattle.hera_code.specs.declared.instrs.Instr.{Instr}
use Rattle.hera_code.specs.declared.instrs.BodyInfo.{BodyInfo}
use Rattle.hera_code.specs.declared.instrs.Code.{Code}
use Rattle.hera_code.specs.Scheme.{Role, in_main, in_func, in_proc, role_of, block_code, last_code, body_code, bodies_code, info_of, infos_of, code_from}
use Rattle.hera_codegen.specs.Roles.{body_role, bodies_code_from, infos_from}
use Rattle.hera_codegen.proofs.Places.{block_length}
use Rattle.hera_codegen.proofs.Emitted.{drop_item, drop_none}

-- the address behind a body
abbrev pub behind : Role → Block → ℕ → ℕ
behind in_main block a = block_end block a + 1
behind in_func block a = block_end block a
behind in_proc block a = block_end block a + 1

pub body_length : (p : Role) (block : Block) (a : ℕ) → a + length (body_code p block a) ≡ behind p block a
body_length in_main block a = omega (arith, block_length in_main block a, length-append (block_code in_main block a) (last_code in_main))
body_length in_func block a = omega (arith, block_length in_func block a, length-append (block_code in_func block a) (last_code in_func))
body_length in_proc block a = omega (arith, block_length in_proc block a, length-append (block_code in_proc block a) (last_code in_proc))

pub ends_behind : (func : Bool) (block : Block) (a : ℕ) → body_end func block a ≡ behind (role_of func) block a
ends_behind true block a = refl
ends_behind false block a = refl

from_next : (k : ℕ) (bodies : List Body_tree) (a : ℕ) → bodies_code bodies a ≡ bodies_code_from (suc k) bodies a
from_next k [] a = refl
from_next k (b ∷ bodies) a = refl

infos_next : (k : ℕ) (bodies : List Body_tree) (a : ℕ) → infos_of bodies a ≡ infos_from (suc k) bodies a
infos_next k [] a = refl
infos_next k (b ∷ bodies) a = refl

code_one : (k : ℕ) (b : Body_tree) (bodies : List Body_tree) (a : ℕ) →
    bodies_code_from k (b ∷ bodies) a ≡ body_code (body_role k b.func) b.block a ++ bodies_code_from (suc k) bodies (behind (body_role k b.func) b.block a)
code_one zero b bodies a = ap (λ l. body_code in_main b.block a ++ l) (from_next zero bodies (block_end b.block a + 1))
code_one (suc k) b bodies a =
    ap (λ n. body_code (role_of b.func) b.block a ++ bodies_code bodies n) (ends_behind b.func b.block a)
    ∙ ap (λ l. body_code (role_of b.func) b.block a ++ l) (from_next (suc k) bodies (behind (role_of b.func) b.block a))

infos_one : (k : ℕ) (b : Body_tree) (bodies : List Body_tree) (a : ℕ) →
    infos_from k (b ∷ bodies) a ≡ info_of b a ∷ infos_from (suc k) bodies (behind (body_role k b.func) b.block a)
infos_one zero b bodies a = ap (λ l. info_of b a ∷ l) (infos_next zero bodies (block_end b.block a + 1))
infos_one (suc k) b bodies a =
    ap (λ n. info_of b a ∷ infos_of bodies n) (ends_behind b.func b.block a)
    ∙ ap (λ l. info_of b a ∷ l) (infos_next (suc k) bodies (behind (role_of b.func) b.block a))

map_item : (items : List Body) (k : ℕ) (x : Body) → k < length items → x ≡ get_or items k x → map body_of (drop k items) ≡ body_of x ∷ map body_of (drop (k + 1) items)
map_item items k x lt is = ap (λ xs. map body_of xs) (drop_item items k x lt is)

body_behind : (p : Role) (x : Body) (c c' : List Instr) → c' ≡ c ++ body_code p (block_in x.block.items) (length c) → length c' ≡ behind p (block_in x.block.items) (length c)
body_behind p x c c' h = ap length h ∙ length-append c (body_code p (block_in x.block.items) (length c)) ∙ body_length p (block_in x.block.items) (length c)

pub bodies_go : (items : List Body) (k : ℕ) (x : Body) (p : Role) (c c' R : List Instr) → k < length items → x ≡ get_or items k x → p ≡ body_role k x.func → c' ≡ c ++ body_code p (block_in x.block.items) (length c) →
    c ++ bodies_code_from k (map body_of (drop k items)) (length c) ≡ R → c' ++ bodies_code_from (k + 1) (map body_of (drop (k + 1) items)) (length c') ≡ R
bodies_go items k x p c c' R lt is p_is h inv =
    let a = length c in
    let block = block_in x.block.items in
    let rest = map body_of (drop (k + 1) items) in
    let h' : c' ≡ c ++ body_code (body_role k x.func) block a = h ∙ ap (λ q. c ++ body_code q block a) p_is in
    let b = behind (body_role k x.func) block a in
    let next : k + 1 ≡ suc k = add-one k in
    ap (λ n. c' ++ bodies_code_from (k + 1) rest n) (body_behind (body_role k x.func) x c c' h')
    ∙ ap (λ n. c' ++ bodies_code_from n rest b) next
    ∙ ap (λ l. l ++ bodies_code_from (suc k) rest b) h'
    ∙ append_assoc c (body_code (body_role k x.func) block a) (bodies_code_from (suc k) rest b)
    ∙ ap (λ l. c ++ l) (sym (code_one k (body_of x) rest a))
    ∙ sym (ap (λ xs. c ++ bodies_code_from k xs a) (map_item items k x lt is))
    ∙ inv

pub infos_go : (items : List Body) (k : ℕ) (x : Body) (p : Role) (c c' : List Instr) (at : ℕ) (infos infos' R : List BodyInfo) → k < length items → x ≡ get_or items k x → p ≡ body_role k x.func → c' ≡ c ++ body_code p (block_in x.block.items) (length c) →
    at ≡ length c → infos' ≡ infos ++ record { at = at; params = x.params; slots = x.slots; func = x.func } ∷ [] →
    infos ++ infos_from k (map body_of (drop k items)) (length c) ≡ R → infos' ++ infos_from (k + 1) (map body_of (drop (k + 1) items)) (length c') ≡ R
infos_go items k x p c c' at infos infos' R lt is p_is h at_is e inv =
    let a = length c in
    let block = block_in x.block.items in
    let rest = map body_of (drop (k + 1) items) in
    let h' : c' ≡ c ++ body_code (body_role k x.func) block a = h ∙ ap (λ q. c ++ body_code q block a) p_is in
    let b = behind (body_role k x.func) block a in
    let next : k + 1 ≡ suc k = add-one k in
    let one : List BodyInfo = info_of (body_of x) a ∷ [] in
    ap (λ n. infos' ++ infos_from (k + 1) rest n) (body_behind (body_role k x.func) x c c' h')
    ∙ ap (λ n. infos' ++ infos_from n rest b) next
    ∙ ap (λ l. l ++ infos_from (suc k) rest b) (e ∙ ap (λ n. infos ++ record { at = n; params = x.params; slots = x.slots; func = x.func } ∷ []) at_is)
    ∙ append_assoc infos one (infos_from (suc k) rest b)
    ∙ ap (λ l. infos ++ l) (sym (infos_one k (body_of x) rest a))
    ∙ sym (ap (λ xs. infos ++ infos_from k xs a) (map_item items k x lt is))
    ∙ inv

code_is : (bodies : List Body_tree) (c : Code) → c.instrs ≡ bodies_code_from 0 bodies 0 → c.bodies ≡ infos_from 0 bodies 0 → c ≡ code_from bodies
code_is [] c h e = λ i. record { instrs = h i; bodies = e i }
code_is (b ∷ bodies) c h e = λ i. record { instrs = h i; bodies = e i }

pub program_closed : (items all : List Body) (k : ℕ) (c : List Instr) (infos : List BodyInfo) (code : Code) → length items ≤ k → items ≡ all → code.instrs ≡ c → code.bodies ≡ infos →
    c ++ bodies_code_from k (map body_of (drop k items)) (length c) ≡ bodies_code_from 0 (map body_of items) 0 →
    infos ++ infos_from k (map body_of (drop k items)) (length c) ≡ infos_from 0 (map body_of items) 0 →
    code ≡ code_from (map body_of all)
program_closed items all k c infos code past same instrs_are bodies_are h e =
    let none : map body_of (drop k items) ≡ [] = ap (λ xs. map body_of xs) (drop_none items k past) in
    let whole : c ≡ bodies_code_from 0 (map body_of items) 0 = sym (append-nil c) ∙ sym (ap (λ xs. c ++ bodies_code_from k xs (length c)) none) ∙ h in
    let table : infos ≡ infos_from 0 (map body_of items) 0 = sym (append-nil infos) ∙ sym (ap (λ xs. infos ++ infos_from k xs (length c)) none) ∙ e in
    code_is (map body_of items) code (instrs_are ∙ whole) (bodies_are ∙ table) ∙ ap (λ xs. code_from (map body_of xs)) same

-- ---- the number of instructions

pub bodies_length : (bodies : List Body_tree) (a : ℕ) → a + length (bodies_code bodies a) ≡ bodies_end bodies a
bodies_length [] a = omega arith
bodies_length (b ∷ bodies) a =
    omega (
      arith,
      body_length (role_of b.func) b.block a,
      ends_behind b.func b.block a,
      bodies_length bodies (body_end b.func b.block a),
      length-append (body_code (role_of b.func) b.block a) (bodies_code bodies (body_end b.func b.block a)),
    )

pub code_length : (rels : List RelDecl) (bodies : List Body_tree) → length (code_from bodies).instrs ≡ size_of (record { relations = rels; bodies = bodies })
code_length rels [] = refl
code_length rels (b ∷ bodies) =
    let a = block_end b.block 0 + 1 in
    omega (arith, body_length in_main b.block 0, bodies_length bodies a, length-append (body_code in_main b.block 0) (bodies_code bodies a))
