-- Typed scripts have sound programs, with the types that typing finds.
use Rattle.std.proofs.Common.{◌≡◌, ℕ, zero, suc, ◌<◌, ◌≤◌, ◌+◌, ◌*◌, List, [], ◌∷◌, ◌++◌, length, take, refl, sym, ap, ◌∙◌, subst, arith, Bool, true, false, append_assoc, append-nil, length-append}
use Rattle.std.specs.Prelude.{Ok, Err, Option, Some, None, ◌||◌, not, cond, is_some, map, slice_get, nat_lt, All}
use Rattle.std.specs.Option.{option_map}
use Rattle.std.proofs.lemmas.Bool.{ltb-true}
use Rattle.std.proofs.lemmas.Option.{slice_get-map}
use Rattle.std.proofs.lemmas.List.Elements.{All-cons, All-nil, All-head, All-tail, All-map}
use Rattle.hera_sets.specs.Rows.{Row, is_same, holds}
use Rattle.hera_meaning.specs.declared.schemas.RelDecl.{RelDecl}
use Rattle.hera_meaning.specs.declared.trees.Shape.{Shape}
use Rattle.hera_meaning.specs.Schemas.{AreDistinct, IsSchema}
use Rattle.hera_meaning.specs.Catalogues.{IsDecl, IsCatalogue, decl_name}
use Rattle.hera_meaning.specs.Deltas.{schema_of}
use Rattle.hera_meaning.specs.Identifiers.{IsIdentifier}
use Rattle.hera_meaning.specs.Hosts.{Hosts}
use Rattle.hera_meaning.specs.Forms.{Form, form_of}
use Rattle.hera_meaning.specs.Trees.{Command, Body_tree, Program_tree}
use Rattle.hera_meaning.specs.Sound.{Scope, Body_forms, IsBody, Shaped, Sound, BlockIsSound, AreApart, has_slot, first_slots, returns, walks_of_block, scope_of, is_spec}
use Rattle.hera_meaning.specs.Shapes.{Body_types, Body_shapes, without_names, forms_of as body_forms, BlockGathers, IsShaped}
use Rattle.hera_meaning.proofs.Names.{distinct_push}
use Rattle.hera_host.specs.Tables.{Host, specs_of, AreHosts}
use Rattle.hera_rules.specs.declared.env.Local.{Local}
use Rattle.hera_rules.specs.declared.env.FuncSig.{FuncSig}
use Rattle.hera_rules.specs.declared.env.ProcSig.{ProcSig}
use Rattle.hera_rules.specs.declared.fault.TypeFault.TheVariants.{Repeated as repeated, NoReturn as no_return, TooMany as too_many}
use Rattle.hera_rules.specs.Environments.{Env, func_named, proc_named}
use Rattle.hera_rules.specs.Phrases.{Acts, Relation_phrase, Param_phrase, Func_phrase, Proc_phrase, Script}
use Rattle.hera_rules.specs.Checked.{and_then}
use Rattle.hera_rules.specs.Commands.{fields_row, type_row, block_from}
use Rattle.hera_rules.specs.Programs.{relation_name, relations_row, names_row, local_name, param_row, params_row, func_row, funcs_row, proc_row, procs_row, env_row, body_with, ElabBody, returns_row, ElabFuncs, no_func_is, no_func_left, func_is, ElabProcs, no_proc_is, no_proc_left, proc_is, program_with, ElabScript, script_is}
use Rattle.hera_sound.proofs.Tests.{then_ok, cond_second, cond_first}
use Rattle.hera_sound.proofs.Schemas.{fields_behind, fields_schema}
use Rattle.hera_sound.specs.Types_found.{Slot, held, slots_acts, param_slots, types_with, func_types, proc_types, types_found}
use Rattle.hera_sound.proofs.Slots.{slot_forms, slot_gathers, walk_places, Stand, stand_behind, walk_at, places_apart, places_above, first_has}
use Rattle.hera_sound.proofs.Sizes.{bound_block, bound_bodies, size_bound}
use Rattle.hera_sound.proofs.Made.{RelationsAreMade, ParamsAreMade, FuncsAreMade, ProcsAreMade, ActsAreMade, acts_nodes, funcs_nodes, procs_nodes, ScriptIsMade}
use Rattle.hera_sound.proofs.Fine.{Inside, scope, IsGood, EnvIsGood, forms_of, slot_held}
use Rattle.hera_sound.proofs.Acts.{acts_many, AllSettable, type_good, acts_fine}

-- ---- relations

map_push : (rels : List RelDecl) (d : RelDecl) → map decl_name (rels ++ d ∷ []) ≡ map decl_name rels ++ d.name ∷ []
map_push [] d = refl
map_push (e ∷ rels) d = ap (λ xs. e.name ∷ xs) (map_push rels d)

all_push : (rels : List RelDecl) (d : RelDecl) → All IsDecl rels → IsDecl d → All IsDecl (rels ++ d ∷ [])
all_push [] d h k = All-cons IsDecl d [] k h
all_push (e ∷ rels) d h k = All-cons IsDecl e (rels ++ d ∷ []) (All-head IsDecl e rels h) (all_push rels d (All-tail IsDecl e rels h) k)

relations_behind : (rels : List RelDecl) (ps : List Relation_phrase) (out : List RelDecl) → length rels ≤ 256 → AreDistinct (map decl_name rels) → All IsDecl rels → RelationsAreMade ps → relations_row rels ps ≡ Ok out → IsCatalogue out
relations_behind rels [] out few d h m e =
    let same : rels ≡ out = cc in subst (λ (z : List RelDecl). IsCatalogue z) same (record { few = few; distinct = d; decls = h })
relations_behind rels (p ∷ ps) out few d h m e =
    let a = then_ok (fields_row [] p.attrs) (λ attrs. and_then (relation_name rels p.name) (λ name. relations_row (rels ++ record { name = name; schema = attrs } ∷ []) ps)) out e in
    let b = then_ok (relation_name rels p.name) (λ name. relations_row (rels ++ record { name = name; schema = a.0 } ∷ []) ps) out a.2 in
    let c = cond_second (holds (map decl_name rels) p.name.name) (repeated p.name.at) (cond (nat_lt (length rels) 256) (Ok p.name.name) (Err (too_many p.name.at))) b.0 b.1 in
    let o = cond_first (nat_lt (length rels) 256) (too_many p.name.at) (Ok p.name.name) b.0 c.1 in
    let name_is : p.name.name ≡ b.0 = let z = o.1 in cc in
    let decl : RelDecl = record { name = b.0; schema = a.0 } in
    let f = fields_behind [] p.attrs a.0 (omega arith) tt a.1 in
    let good : IsDecl decl = record { name = subst (λ (n : Row). IsIdentifier n) name_is m.0.name; schema = fields_schema p.attrs a.0 m.0.some a.1; attrs = subst (λ (ns : List Row). All IsIdentifier ns) (sym f.names) m.0.attrs } in
    let n = length-append rels (decl ∷ []) in
    let l = ltb-true (length rels) 256 o.0 in
    relations_behind (rels ++ decl ∷ []) ps out (omega (arith, n, l))
    (subst (λ (ns : List Row). AreDistinct ns) (sym (map_push rels decl)) (distinct_push (map decl_name rels) b.0 d (ap (λ z. holds (map decl_name rels) z) (sym name_is) ∙ c.0)))
    (all_push rels decl h good) m.1 b.2

schemas_in : (rels : List RelDecl) → All IsDecl rels → (r : ℕ) → r < length rels → IsSchema (schema_of rels r)
schemas_in [] h r l = absurd (omega arith)
schemas_in (d ∷ rels) h zero l = (All-head IsDecl d rels h).schema
schemas_in (d ∷ rels) h (suc r) l = schemas_in rels (All-tail IsDecl d rels h) r (omega arith)

-- ---- parameters

-- parameters whose slots go up from this one, and whose types are good
abbrev AreParams : ℕ → List Local → Type 0
AreParams k [] = Unit {0}
AreParams k (l ∷ ls) = (l.slot ≡ k) × IsGood l.shape × AreParams (k + 1) ls

params_push : (k : ℕ) (ls : List Local) (l : Local) → AreParams k ls → l.slot ≡ k + length ls → IsGood l.shape → AreParams k (ls ++ l ∷ [])
params_push k [] l h e g = (omega (arith, e), g, tt)
params_push k (m ∷ ls) l h e g = (h.0, h.1, params_push (k + 1) ls l h.2 (omega (arith, e)) g)

module _ (rels : List RelDecl) (schemas : (r : ℕ) → r < length rels → IsSchema (schema_of rels r)) where
  params_behind : (taken : List Row) (ls : List Local) (ps : List Param_phrase) (out : List Local) → AreParams 0 ls → ParamsAreMade ps → params_row rels taken ls ps ≡ Ok out → AreParams 0 out
  params_behind taken ls [] out h m e = let same : ls ≡ out = cc in subst (λ (z : List Local). AreParams 0 z) same h
  params_behind taken ls (p ∷ ps) out h m e =
      let a = then_ok (param_row rels taken ls p) (λ l. params_row rels taken (ls ++ l ∷ []) ps) out e in
      let b = then_ok (type_row rels p.type) (λ t. cond (holds taken p.name.name || holds (map local_name ls) p.name.name) (Err (repeated p.name.at)) (Ok (record { name = p.name.name; slot = length ls; shape = t }))) a.0 a.1 in
      let c = cond_second (holds taken p.name.name || holds (map local_name ls) p.name.name) (repeated p.name.at) (Ok (record { name = p.name.name; slot = length ls; shape = b.0 })) a.0 b.2 in
      let local : Local = record { name = p.name.name; slot = length ls; shape = b.0 } in
      let same : local ≡ a.0 = let z = c.1 in cc in
      let l' : AreParams 0 (ls ++ local ∷ []) = params_push 0 ls local h (omega arith) (type_good rels schemas p.type b.0 m.0 b.1) in
      params_behind taken (ls ++ a.0 ∷ []) ps out (subst (λ (z : Local). AreParams 0 (ls ++ z ∷ [])) same l') m.1 a.2

  -- funcs numbered from this one on
  abbrev pub FuncsAreGood : ℕ → List FuncSig → Type 0
  FuncsAreGood k [] = Unit {0}
  FuncsAreGood k (s ∷ sigs) = (s.number ≡ k) × IsGood s.result × AreParams 0 s.params × FuncsAreGood (k + 1) sigs

  abbrev pub ProcsAreGood : ℕ → List ProcSig → Type 0
  ProcsAreGood k [] = Unit {0}
  ProcsAreGood k (s ∷ sigs) = (s.number ≡ k) × AreParams 0 s.params × ProcsAreGood (k + 1) sigs

  funcs_push : (k : ℕ) (sigs : List FuncSig) (s : FuncSig) → FuncsAreGood k sigs → s.number ≡ k + length sigs → IsGood s.result → AreParams 0 s.params → FuncsAreGood k (sigs ++ s ∷ [])
  funcs_push k [] s h e g p = (omega (arith, e), g, p, tt)
  funcs_push k (q ∷ sigs) s h e g p = (h.0, h.1, h.2, funcs_push (k + 1) sigs s h.3 (omega (arith, e)) g p)

  procs_push : (k : ℕ) (sigs : List ProcSig) (s : ProcSig) → ProcsAreGood k sigs → s.number ≡ k + length sigs → AreParams 0 s.params → ProcsAreGood k (sigs ++ s ∷ [])
  procs_push k [] s h e p = (omega (arith, e), p, tt)
  procs_push k (q ∷ sigs) s h e p = (h.0, h.1, procs_push (k + 1) sigs s h.2 (omega (arith, e)) p)

  record FuncsBehind (sigs : List FuncSig) (fs : List Func_phrase) (out : List FuncSig) : Type 0 where
    pub good : FuncsAreGood 1 out
    pub many : length out ≡ length sigs + length fs

  funcs_behind : (taken : List Row) (sigs : List FuncSig) (fs : List Func_phrase) (out : List FuncSig) → FuncsAreGood 1 sigs → FuncsAreMade fs → funcs_row rels taken sigs fs ≡ Ok out → FuncsBehind sigs fs out
  funcs_behind taken sigs [] out h m e = let same : sigs ≡ out = cc in subst (λ (z : List FuncSig). FuncsBehind sigs [] z) same (record { good = h; many = omega arith })
  funcs_behind taken sigs (f ∷ fs) out h m e =
      let a = then_ok (func_row rels taken (1 + length sigs) f) (λ sig. funcs_row rels taken (sigs ++ sig ∷ []) fs) out e in
      let b = then_ok (type_row rels f.type) (λ t. and_then (params_row rels taken [] f.params) (λ ls. Ok (record { name = f.name.name; number = 1 + length sigs; result = t; params = ls }))) a.0 a.1 in
      let c = then_ok (params_row rels taken [] f.params) (λ ls. Ok (record { name = f.name.name; number = 1 + length sigs; result = b.0; params = ls })) a.0 b.2 in
      let sig : FuncSig = record { name = f.name.name; number = 1 + length sigs; result = b.0; params = c.0 } in
      let same : sig ≡ a.0 = let z = c.2 in cc in
      let s' : FuncsAreGood 1 (sigs ++ sig ∷ []) = funcs_push 1 sigs sig h refl (type_good rels schemas f.type b.0 m.0.0 b.1) (params_behind taken [] f.params c.0 tt m.0.1 c.1) in
      let r = funcs_behind taken (sigs ++ a.0 ∷ []) fs out (subst (λ (z : FuncSig). FuncsAreGood 1 (sigs ++ z ∷ [])) same s') m.1 a.2 in
      let n = length-append sigs (a.0 ∷ []) in
      let k = r.many in
      record { good = r.good; many = omega (arith, n, k) }

  record ProcsBehind (first : ℕ) (sigs : List ProcSig) (ps : List Proc_phrase) (out : List ProcSig) : Type 0 where
    pub good : ProcsAreGood first out
    pub many : length out ≡ length sigs + length ps

  procs_behind : (taken : List Row) (funcs : ℕ) (sigs : List ProcSig) (ps : List Proc_phrase) (out : List ProcSig) → ProcsAreGood (1 + funcs) sigs → ProcsAreMade ps → procs_row rels taken funcs sigs ps ≡ Ok out → ProcsBehind (1 + funcs) sigs ps out
  procs_behind taken funcs sigs [] out h m e = let same : sigs ≡ out = cc in subst (λ (z : List ProcSig). ProcsBehind (1 + funcs) sigs [] z) same (record { good = h; many = omega arith })
  procs_behind taken funcs sigs (p ∷ ps) out h m e =
      let a = then_ok (proc_row rels taken (1 + funcs + length sigs) p) (λ sig. procs_row rels taken funcs (sigs ++ sig ∷ []) ps) out e in
      let c = then_ok (params_row rels taken [] p.params) (λ ls. Ok (record { name = p.name.name; number = 1 + funcs + length sigs; params = ls })) a.0 a.1 in
      let sig : ProcSig = record { name = p.name.name; number = 1 + funcs + length sigs; params = c.0 } in
      let same : sig ≡ a.0 = let z = c.2 in cc in
      let s' : ProcsAreGood (1 + funcs) (sigs ++ sig ∷ []) = procs_push (1 + funcs) sigs sig h refl (params_behind taken [] p.params c.0 tt m.0.0 c.1) in
      let r = procs_behind taken funcs (sigs ++ a.0 ∷ []) ps out (subst (λ (z : ProcSig). ProcsAreGood (1 + funcs) (sigs ++ z ∷ [])) same s') m.1 a.2 in
      let n = length-append sigs (a.0 ∷ []) in
      let k = r.many in
      record { good = r.good; many = omega (arith, n, k) }

-- ---- bodies and their forms

record Entry : Type 0 where
  pub body : Body_tree
  pub types : Body_types

abbrev forms_as : Body_types → Body_forms
forms_as t = body_forms (without_names t)

abbrev entry_of : List Local → Bool → Acts → List Command → List Slot → Option Shape → Entry
entry_of params func block cs ss result = record { body = body_with params func block cs; types = types_with params ss result }

abbrev bodies_in : List Entry → List Body_tree
bodies_in es = map (λ e. e.body) es

abbrev forms_among : List Entry → List Body_forms
forms_among es = map (λ e. forms_as e.types) es

abbrev types_among : List Entry → List Body_types
types_among es = map (λ e. e.types) es

abbrev func_entries : {g : Env} {bodies all : List Body_tree} {sigs : List FuncSig} {fs : List Func_phrase} → ElabFuncs g bodies sigs fs all → List Entry
func_entries no_func_is = []
func_entries no_func_left = []
func_entries (func_is {sig = sig} {f = f} {ds = ds} e r rest) = entry_of sig.params true f.block ds (slots_acts e) (Some sig.result) ∷ func_entries rest

abbrev proc_entries : {g : Env} {bodies all : List Body_tree} {sigs : List ProcSig} {ps : List Proc_phrase} → ElabProcs g bodies sigs ps all → List Entry
proc_entries no_proc_is = []
proc_entries no_proc_left = []
proc_entries (proc_is {sig = sig} {p = p} {cs = cs} e rest) = entry_of sig.params false p.block cs (slots_acts e) None ∷ proc_entries rest

funcs_are : {g : Env} {bodies all : List Body_tree} {sigs : List FuncSig} {fs : List Func_phrase} (e : ElabFuncs g bodies sigs fs all) → all ≡ bodies ++ bodies_in (func_entries e)
funcs_are (no_func_is {bodies = bodies}) = sym (append-nil bodies)
funcs_are (no_func_left {bodies = bodies}) = sym (append-nil bodies)
funcs_are (func_is {sig = sig} {f = f} {ds = ds} {bodies = bodies} e r rest) = funcs_are rest ∙ append_assoc bodies (body_with sig.params true f.block ds ∷ []) (bodies_in (func_entries rest))

procs_are : {g : Env} {bodies all : List Body_tree} {sigs : List ProcSig} {ps : List Proc_phrase} (e : ElabProcs g bodies sigs ps all) → all ≡ bodies ++ bodies_in (proc_entries e)
procs_are (no_proc_is {bodies = bodies}) = sym (append-nil bodies)
procs_are (no_proc_left {bodies = bodies}) = sym (append-nil bodies)
procs_are (proc_is {sig = sig} {p = p} {cs = cs} {bodies = bodies} e rest) = procs_are rest ∙ append_assoc bodies (body_with sig.params false p.block cs ∷ []) (bodies_in (proc_entries rest))

-- an entry has these parameters and this result
record Callable (func : Bool) (params : List Local) (result : Option Form) (e : Entry) : Type 0 where
  pub func_is : e.body.func ≡ func
  pub params_are : forms_of params ≡ take e.body.params (forms_as e.types).slots
  pub result_is : (forms_as e.types).result ≡ result

params_taken : (ls : List Local) (ss : List Slot) → forms_of ls ≡ take (length ls) (slot_forms (param_slots ls ++ ss))
params_taken [] ss = refl
params_taken (l ∷ ls) ss = ap (λ fs. form_of l.shape ∷ fs) (params_taken ls ss)

-- the entry of a func or a proc that is named, at its number
record FoundFunc (k : ℕ) (f : FuncSig) (es : List Entry) : Type 0 where
  pub place : ℕ
  pub entry : Entry
  pub number : f.number ≡ k + place
  pub here : slice_get es place ≡ Some entry
  pub callable : Callable true f.params (Some (form_of f.result)) entry
  pub good : IsGood f.result

record FoundProc (k : ℕ) (p : ProcSig) (es : List Entry) : Type 0 where
  pub place : ℕ
  pub entry : Entry
  pub number : p.number ≡ k + place
  pub here : slice_get es place ≡ Some entry
  pub callable : Callable false p.params None entry

func_found : (rels : List RelDecl) (schemas : (r : ℕ) → r < length rels → IsSchema (schema_of rels r)) {g : Env} {bodies all : List Body_tree} {sigs : List FuncSig} {fs : List Func_phrase} (k : ℕ) (name : List ℕ) (f : FuncSig) (e : ElabFuncs g bodies sigs fs all) →
    FuncsAreGood rels schemas k sigs → length sigs ≡ length fs → func_named name sigs ≡ Some f → FoundFunc k f (func_entries e)
func_found rels schemas k name f no_func_is h n e = absurd cc
func_found rels schemas k name f no_func_left h n e = absurd (omega arith)
func_found rels schemas k name f (func_is {sig = sig} {sigs = sigs} {f = p} {fs = fs} {ds = ds} b r rest) h n e =
    by (is_same name sig.name) e (λ j. func_found rels schemas (k + 1) name f rest h.3 (omega (arith, n)) j)
  where
    by : (c : Bool) → cond c (Some sig) (func_named name sigs) ≡ Some f → (func_named name sigs ≡ Some f → FoundFunc (k + 1) f (func_entries rest)) → FoundFunc k f (entry_of sig.params true p.block ds (slots_acts b) (Some sig.result) ∷ func_entries rest)
    by true e ih =
        let same : sig ≡ f = cc in
        subst (λ (z : FuncSig). FoundFunc k z (entry_of sig.params true p.block ds (slots_acts b) (Some sig.result) ∷ func_entries rest)) same
        (record {
          place = 0;
          entry = entry_of sig.params true p.block ds (slots_acts b) (Some sig.result);
          number = let z = h.0 in omega (arith, z);
          here = refl;
          callable = record { func_is = refl; params_are = params_taken sig.params (slots_acts b); result_is = refl };
          good = h.1;
        })
    by false e ih = let j = ih e in let z = j.number in record { place = suc j.place; entry = j.entry; number = omega (arith, z); here = j.here; callable = j.callable; good = j.good }

proc_found : (rels : List RelDecl) (schemas : (r : ℕ) → r < length rels → IsSchema (schema_of rels r)) {g : Env} {bodies all : List Body_tree} {sigs : List ProcSig} {ps : List Proc_phrase} (k : ℕ) (name : List ℕ) (f : ProcSig) (e : ElabProcs g bodies sigs ps all) →
    ProcsAreGood rels schemas k sigs → length sigs ≡ length ps → proc_named name sigs ≡ Some f → FoundProc k f (proc_entries e)
proc_found rels schemas k name f no_proc_is h n e = absurd cc
proc_found rels schemas k name f no_proc_left h n e = absurd (omega arith)
proc_found rels schemas k name f (proc_is {sig = sig} {sigs = sigs} {p = p} {ps = ps} {cs = cs} b rest) h n e =
    by (is_same name sig.name) e (λ j. proc_found rels schemas (k + 1) name f rest h.2 (omega (arith, n)) j)
  where
    by : (c : Bool) → cond c (Some sig) (proc_named name sigs) ≡ Some f → (proc_named name sigs ≡ Some f → FoundProc (k + 1) f (proc_entries rest)) → FoundProc k f (entry_of sig.params false p.block cs (slots_acts b) None ∷ proc_entries rest)
    by true e ih =
        let same : sig ≡ f = cc in
        subst (λ (z : ProcSig). FoundProc k z (entry_of sig.params false p.block cs (slots_acts b) None ∷ proc_entries rest)) same
        (record {
          place = 0;
          entry = entry_of sig.params false p.block cs (slots_acts b) None;
          number = let z = h.0 in omega (arith, z);
          here = refl;
          callable = record { func_is = refl; params_are = params_taken sig.params (slots_acts b); result_is = refl };
        })
    by false e ih = let j = ih e in let z = j.number in record { place = suc j.place; entry = j.entry; number = omega (arith, z); here = j.here; callable = j.callable }

-- ---- one body

length-params : (ls : List Local) → length (param_slots ls) ≡ length ls
length-params [] = refl
length-params (l ∷ ls) = ap (λ n. suc n) (length-params ls)

length-forms : (ss : List Slot) → length (slot_forms ss) ≡ length ss
length-forms [] = refl
length-forms (s ∷ ss) = ap (λ n. suc n) (length-forms ss)

-- no parameter is a walk's
params_held : (n : ℕ) (ls : List Local) (ss : List Slot) → walk_places n (param_slots ls ++ ss) ≡ walk_places (n + length ls) ss
params_held n [] ss = ap (λ k. walk_places k ss) (let e : n ≡ n + 0 = omega arith in e)
params_held n (l ∷ ls) ss = params_held (n + 1) ls ss ∙ ap (λ k. walk_places k ss) (let e : n + 1 + length ls ≡ n + suc (length ls) = omega arith in e)

-- parameters from a place on stand in all slots
abbrev ParamsStand : List Slot → ℕ → List Local → Type 0
ParamsStand all k [] = Unit {0}
ParamsStand all k (l ∷ ls) = (slice_get all k ≡ Some (held l.shape)) × ParamsStand all (k + 1) ls

params_stand : (front : List Slot) (ls : List Local) (ss : List Slot) (k : ℕ) → k ≡ length front → ParamsStand (front ++ (param_slots ls ++ ss)) k ls
params_stand front [] ss k e = tt
params_stand front (l ∷ ls) ss k e =
    let s : Slot = held l.shape in
    let n = length-append front (s ∷ []) in
    (ap (λ i. slice_get (front ++ (s ∷ (param_slots ls ++ ss))) i) e ∙ at front s (param_slots ls ++ ss), subst (λ (all : List Slot). ParamsStand all (k + 1) ls) (append_assoc front (s ∷ []) (param_slots ls ++ ss)) (params_stand (front ++ s ∷ []) ls ss (k + 1) (omega (arith, e, n))))
  where
    at : (front : List Slot) (s : Slot) (more : List Slot) → slice_get (front ++ s ∷ more) (length front) ≡ Some s
    at [] s more = refl
    at (x ∷ front) s more = at front s more

params_settable : {g : Env} (x : Inside g) (n k : ℕ) (ls : List Local) → AreParams k ls → ParamsStand x.slots k ls → k + length ls ≤ n → AllSettable x (first_slots n) [] n ls
params_settable x n k [] h s l = tt
params_settable x n k (p ∷ ls) h s l =
    let here : slice_get x.slots p.slot ≡ Some (held p.shape) = ap (λ i. slice_get x.slots i) h.0 ∙ s.0 in
    let e = h.0 in
    let free : has_slot (scope x).walks p.slot ≡ false = walk_at p.slot x.slots (held p.shape) here in (
      record {
        visible = record { readable = first_has n p.slot (omega (arith, e, l)); slot = slot_held x p.slot (held p.shape) here; good = h.1 };
        may = ap (λ b. not b || has_slot [] p.slot) free;
        below = omega (arith, e, l);
      },
      params_settable x n (k + 1) ls h.2 s.1 (omega (arith, l)),
    )

-- the program of a scope
module _ (g : Env) (bodies : List Body_tree) (forms : List Body_forms) where
  abbrev inside : Bool → List Slot → Option Form → Inside g
  inside func slots result = record { bodies = bodies; forms = forms; func = func; slots = slots; result = result }

  abbrev scope_with : Bool → Body_forms → List ℕ → Scope
  scope_with func own walks = record { rels = g.relations; hosts = specs_of g.hosts; bodies = bodies; forms = forms; func = func; own = own; walks = walks }

  -- the body is sound with the entry's types, and its walks gather what these say
  record IsSoundEntry (e : Entry) : Type 0 where
    pub sound : IsBody (scope_with e.body.func (forms_as e.types) (walks_of_block e.body.block)) e.body
    pub gathers : BlockGathers (scope_with e.body.func (forms_as e.types) (walks_of_block e.body.block)) (without_names e.types).gathers e.body.block

  record FineBody (e : Entry) (n : ℕ) : Type 0 where
    pub sound : IsSoundEntry e
    pub small : bound_block e.body.block ≤ 10 * n

  body_fine : (r : Option Shape) (params : List Local) (block : Acts) (cs : List Command) (e : ElabBody g r params block cs) → ((slots : List Slot) → EnvIsGood (inside (is_some r) slots (option_map form_of r))) →
      AreParams 0 params → ActsAreMade block → (is_some r ≡ true → returns (block_from cs) ≡ true) → FineBody (entry_of params (is_some r) block cs (slots_acts e) r) (acts_nodes block)
  body_fine r params block cs e env h m ret =
      let ss : List Slot = slots_acts e in
      let all : List Slot = param_slots params ++ ss in
      let n : ℕ = length params in
      let x : Inside g = inside (is_some r) all (option_map form_of r) in
      let pl = length-params params in
      let stand : Stand all n ss = subst (λ k. Stand all k ss) pl (stand_behind (param_slots params) ss) in
      let settable : AllSettable x (first_slots n) [] n params = params_settable x n 0 params h (params_stand [] params ss 0 refl) (omega arith) in
      let f = acts_fine x (env all) r (record { func = refl; result = refl }) (first_slots n) [] [] e m settable tt stand in
      let same : cs ≡ f.news = f.all_is in
      let walks : walks_of_block (block_from cs) ≡ walk_places n ss = ap (λ z. walks_of_block (block_from z)) same ∙ f.walks in
      let total : walk_places 0 all ≡ walk_places n ss = params_held 0 params ss ∙ ap (λ k. walk_places k ss) (let q : 0 + n ≡ n = omega arith in q) in
      let own : Body_forms = record { slots = slot_forms all; result = option_map form_of r } in
      let block_sound : BlockIsSound (scope_with (is_some r) own (walk_places 0 all)) [] (first_slots n) [] (block_from cs) = subst (λ (z : List Command). BlockIsSound (scope_with (is_some r) own (walk_places 0 all)) [] (first_slots n) [] (block_from z)) (sym same) f.sound in
      let block_gathers : BlockGathers (scope_with (is_some r) own (walk_places 0 all)) (slot_gathers all) (block_from cs) =
      subst (λ (z : List Command). BlockGathers (scope_with (is_some r) own (walk_places 0 all)) (slot_gathers all) (block_from z)) (sym same) f.gathers in
      let fl = length-forms all in
      let al = length-append (param_slots params) ss in
      let sl = acts_many e in
      record {
        sound = record {
          sound = record {
            params = omega arith;
            slots = omega (arith, fl, al, pl, sl);
            result = some_form r;
            returning = ret;
            walks_new = subst (λ (ws : List ℕ). All (λ i. n ≤ i) ws) (sym walks) (places_above n n ss (omega arith));
            walks_apart = subst (λ (ws : List ℕ). AreApart ws) (sym walks) (places_apart n ss);
            block = subst (λ (ws : List ℕ). BlockIsSound (scope_with (is_some r) own ws) [] (first_slots n) [] (block_from cs)) (total ∙ sym walks) block_sound;
          };
          gathers = subst (λ (ws : List ℕ). BlockGathers (scope_with (is_some r) own ws) (slot_gathers all) (block_from cs)) (total ∙ sym walks) block_gathers;
        };
        small = subst (λ (z : List Command). bound_block (block_from z) ≤ 10 * acts_nodes block) (sym same) f.small;
      }
    where
      some_form : (r : Option Shape) → is_some (option_map form_of r) ≡ is_some r
      some_form None = refl
      some_form (Some t) = refl

  abbrev AreSoundEntries : List Entry → Type 0
  AreSoundEntries [] = Unit {0}
  AreSoundEntries (e ∷ es) = IsSoundEntry e × AreSoundEntries es

  record FineBodies (es : List Entry) (n : ℕ) : Type 0 where
    pub sound : AreSoundEntries es
    pub small : bound_bodies (bodies_in es) ≤ 10 * n

  returned : (at : ℕ) (cs ds : List Command) → returns_row at cs ≡ Ok ds → (returns (block_from cs) ≡ true) × (cs ≡ ds)
  returned at cs ds e = let h = cond_first (returns (block_from cs)) (no_return at) (Ok cs) ds e in (h.0, let z = h.1 in let s : cs ≡ ds = cc in s)

  funcs_fine : (schemas : (r : ℕ) → r < length g.relations → IsSchema (schema_of g.relations r)) {before all : List Body_tree} {sigs : List FuncSig} {fs : List Func_phrase} (k : ℕ) (e : ElabFuncs g before sigs fs all) →
      ((r : Option Shape) (slots : List Slot) → EnvIsGood (inside (is_some r) slots (option_map form_of r))) → FuncsAreGood g.relations schemas k sigs → FuncsAreMade fs → FineBodies (func_entries e) (funcs_nodes fs)
  funcs_fine schemas k (no_func_is {fs = fs}) env h m = record { sound = tt; small = omega arith }
  funcs_fine schemas k no_func_left env h m = record { sound = tt; small = omega arith }
  funcs_fine schemas k (func_is {sig = sig} {f = f} {fs = fs} {cs = cs} {ds = ds} b r rest) env h m =
      let z = returned f.name.at cs ds r in
      let one : FineBody (entry_of sig.params true f.block cs (slots_acts b) (Some sig.result)) (acts_nodes f.block) = body_fine (Some sig.result) sig.params f.block cs b (env (Some sig.result)) h.2 m.0.2 (λ _. z.0) in
      let one' : FineBody (entry_of sig.params true f.block ds (slots_acts b) (Some sig.result)) (acts_nodes f.block) = subst (λ (q : List Command). FineBody (entry_of sig.params true f.block q (slots_acts b) (Some sig.result)) (acts_nodes f.block)) z.1 one in
      let more = funcs_fine schemas (k + 1) rest env h.3 m.1 in
      let p = one'.small in
      let q = more.small in
      record { sound = (one'.sound, more.sound); small = omega (arith, p, q) }

  procs_fine : (schemas : (r : ℕ) → r < length g.relations → IsSchema (schema_of g.relations r)) {before all : List Body_tree} {sigs : List ProcSig} {ps : List Proc_phrase} (k : ℕ) (e : ElabProcs g before sigs ps all) →
      ((r : Option Shape) (slots : List Slot) → EnvIsGood (inside (is_some r) slots (option_map form_of r))) → ProcsAreGood g.relations schemas k sigs → ProcsAreMade ps → FineBodies (proc_entries e) (procs_nodes ps)
  procs_fine schemas k (no_proc_is {ps = ps}) env h m = record { sound = tt; small = omega arith }
  procs_fine schemas k no_proc_left env h m = record { sound = tt; small = omega arith }
  procs_fine schemas k (proc_is {sig = sig} {p = p} {ps = ps} {cs = cs} b rest) env h m =
      let one : FineBody (entry_of sig.params false p.block cs (slots_acts b) None) (acts_nodes p.block) = body_fine None sig.params p.block cs b (env None) h.1 m.0.1 (λ (e : false ≡ true). absurd cc) in
      let more = procs_fine schemas (k + 1) rest env h.2 m.1 in
      let u = one.small in
      let q = more.small in
      record { sound = (one.sound, more.sound); small = omega (arith, u, q) }

-- ---- the whole program

get_back : {A : Type 0} (xs ys : List A) (i : ℕ) → slice_get (xs ++ ys) (length xs + i) ≡ slice_get ys i
get_back [] ys i = ap (λ k. slice_get ys k) (let e : 0 + i ≡ i = omega arith in e)
get_back (x ∷ xs) ys i = ap (λ k. slice_get (x ∷ (xs ++ ys)) k) (let e : suc (length xs) + i ≡ suc (length xs + i) = omega arith in e) ∙ get_back xs ys i

get_front : {A : Type 0} (xs ys : List A) (i : ℕ) (a : A) → slice_get xs i ≡ Some a → slice_get (xs ++ ys) i ≡ Some a
get_front [] ys i a e = absurd cc
get_front (x ∷ xs) ys zero a e = e
get_front (x ∷ xs) ys (suc i) a e = get_front xs ys i a e

length-funcs : {g : Env} {bodies all : List Body_tree} {sigs : List FuncSig} {fs : List Func_phrase} (e : ElabFuncs g bodies sigs fs all) → length sigs ≡ length fs → length (func_entries e) ≡ length sigs
length-funcs (no_func_is {fs = fs}) n = refl
length-funcs no_func_left n = absurd (omega arith)
length-funcs (func_is {sigs = sigs} {fs = fs} b r rest) n = ap (λ k. suc k) (length-funcs rest (omega arith))

map_append : (xs ys : List Entry) → bodies_in (xs ++ ys) ≡ bodies_in xs ++ bodies_in ys
map_append [] ys = refl
map_append (x ∷ xs) ys = ap (λ bs. x.body ∷ bs) (map_append xs ys)

-- an entry by its number is the body and the forms of that number
entry_at : (es : List Entry) (k : ℕ) (e : Entry) → slice_get es k ≡ Some e → (slice_get (bodies_in es) k ≡ Some e.body) × (slice_get (forms_among es) k ≡ Some (forms_as e.types))
entry_at es k e h =
    (slice_get-map (λ (e : Entry). e.body) es k ∙ ap (λ (o : Option Entry). option_map (λ (e : Entry). e.body) o) h, slice_get-map (λ (e : Entry). forms_as e.types) es k ∙ ap (λ (o : Option Entry). option_map (λ (e : Entry). forms_as e.types) o) h)

sound_at : (g : Env) (bodies : List Body_tree) (forms : List Body_forms) (es : List Entry) (k : ℕ) (b : Body_tree) (own : Body_forms) → AreSoundEntries g bodies forms es → slice_get (bodies_in es) k ≡ Some b → slice_get (forms_among es) k ≡ Some own →
    IsBody (scope_with g bodies forms b.func own (walks_of_block b.block)) b
sound_at g bodies forms [] k b own h e f = absurd cc
sound_at g bodies forms (x ∷ es) zero b own h e f =
    let s : x.body ≡ b = cc in
    let t : forms_as x.types ≡ own = cc in
    subst (λ (o : Body_forms). IsBody (scope_with g bodies forms b.func o (walks_of_block b.block)) b) t (subst (λ (c : Body_tree). IsBody (scope_with g bodies forms c.func (forms_as x.types) (walks_of_block c.block)) c) s h.0.sound)
sound_at g bodies forms (x ∷ es) (suc k) b own h e f = sound_at g bodies forms es k b own h.1 e f

-- what a body with these shapes gathers
abbrev GathersAs : Env → List Body_tree → List Body_forms → Body_tree → Body_shapes → Type 0
GathersAs g bodies forms b own = BlockGathers (scope_with g bodies forms b.func (body_forms own) (walks_of_block b.block)) own.gathers b.block

gathers_at : (g : Env) (bodies : List Body_tree) (forms : List Body_forms) (es : List Entry) (k : ℕ) (b : Body_tree) (own : Body_shapes) → AreSoundEntries g bodies forms es → slice_get (bodies_in es) k ≡ Some b → slice_get (map without_names (types_among es)) k ≡ Some own →
    GathersAs g bodies forms b own
gathers_at g bodies forms [] k b own h e f = absurd cc
gathers_at g bodies forms (x ∷ es) zero b own h e f =
    let s : x.body ≡ b = cc in
    let t : without_names x.types ≡ own = cc in
    subst (λ (o : Body_shapes). GathersAs g bodies forms b o) t (subst (λ (c : Body_tree). GathersAs g bodies forms c (without_names x.types)) s h.0.gathers)
gathers_at g bodies forms (x ∷ es) (suc k) b own h e f = gathers_at g bodies forms es k b own h.1 e f

sound_append : (g : Env) (bodies : List Body_tree) (forms : List Body_forms) (xs ys : List Entry) → AreSoundEntries g bodies forms xs → AreSoundEntries g bodies forms ys → AreSoundEntries g bodies forms (xs ++ ys)
sound_append g bodies forms [] ys h k = k
sound_append g bodies forms (x ∷ xs) ys h k = (h.0, sound_append g bodies forms xs ys h.1 k)

bound_append : (xs ys : List Body_tree) → bound_bodies (xs ++ ys) ≡ bound_bodies xs + bound_bodies ys
bound_append [] ys = omega arith
bound_append (x ∷ xs) ys = let h = bound_append xs ys in omega (arith, h)

length-same : (es : List Entry) → length (forms_among es) ≡ length (bodies_in es)
length-same [] = refl
length-same (e ∷ es) = ap (λ n. suc n) (length-same es)

-- the entries' types are those that typing finds
funcs_found : {g : Env} {bodies all : List Body_tree} {sigs : List FuncSig} {fs : List Func_phrase} (e : ElabFuncs g bodies sigs fs all) → types_among (func_entries e) ≡ func_types e
funcs_found no_func_is = refl
funcs_found no_func_left = refl
funcs_found (func_is {sig = sig} e r rest) = ap (λ ts. types_with sig.params (slots_acts e) (Some sig.result) ∷ ts) (funcs_found rest)

procs_found : {g : Env} {bodies all : List Body_tree} {sigs : List ProcSig} {ps : List Proc_phrase} (e : ElabProcs g bodies sigs ps all) → types_among (proc_entries e) ≡ proc_types e
procs_found no_proc_is = refl
procs_found no_proc_left = refl
procs_found (proc_is {sig = sig} e rest) = ap (λ ts. types_with sig.params (slots_acts e) None ∷ ts) (procs_found rest)

types_append : (xs ys : List Entry) → types_among (xs ++ ys) ≡ types_among xs ++ types_among ys
types_append [] ys = refl
types_append (x ∷ xs) ys = ap (λ ts. x.types ∷ ts) (types_append xs ys)

forms_same : (es : List Entry) → forms_among es ≡ map body_forms (map without_names (types_among es))
forms_same [] = refl
forms_same (e ∷ es) = ap (λ fs. forms_as e.types ∷ fs) (forms_same es)

-- the program is sound with these forms, and its walks gather what these shapes say
record ShapedWith (p : Program_tree) (hosts : Hosts) (forms : List Body_forms) (shapes : List Body_shapes) : Type 0 where
  pub shaped : Shaped p hosts forms
  pub gathers : (k : ℕ) (b : Body_tree) (own : Body_shapes) → slice_get p.bodies k ≡ Some b → slice_get shapes k ≡ Some own → BlockGathers (scope_of p hosts forms b (body_forms own)) own.gathers b.block

shaped_as : (p : Program_tree) (hosts : Hosts) (es : List Entry) → ShapedWith p hosts (forms_among es) (map without_names (types_among es)) → IsShaped p hosts (map without_names (types_among es))
shaped_as p hosts es h =
    let k = subst (λ (fs : List Body_forms). ShapedWith p hosts fs (map without_names (types_among es))) (forms_same es) h in record { shaped = k.shaped; gathers = k.gathers }

-- what the first three passes promise
record EnvBehind (hosts : List Host) (s : Script) (g : Env) : Type 0 where
  pub catalogue : IsCatalogue g.relations
  pub schemas : (r : ℕ) → r < length g.relations → IsSchema (schema_of g.relations r)
  pub funcs : FuncsAreGood g.relations schemas 1 g.funcs
  pub funcs_many : length g.funcs ≡ length s.funcs
  pub procs : ProcsAreGood g.relations schemas (1 + length g.funcs) g.procs
  pub procs_many : length g.procs ≡ length s.procs
  pub hosts_are : hosts ≡ g.hosts

env_behind : (hosts : List Host) (s : Script) (g : Env) → ScriptIsMade s → env_row hosts s ≡ Ok g → EnvBehind hosts s g
env_behind hosts s g m e =
    let a = then_ok (relations_row [] s.relations) (λ rels. and_then (names_row (map decl_name rels) (map (λ f. f.name) s.funcs)) (λ some. and_then (names_row some (map (λ p. p.name) s.procs)) (λ taken. and_then (funcs_row rels taken [] s.funcs) (λ funcs.
    and_then (procs_row rels taken (length funcs) [] s.procs) (λ procs. Ok (record { relations = rels; funcs = funcs; procs = procs; hosts = hosts })))))) g e in
    let b = then_ok (names_row (map decl_name a.0) (map (λ f. f.name) s.funcs)) (λ some. and_then (names_row some (map (λ p. p.name) s.procs)) (λ taken. and_then (funcs_row a.0 taken [] s.funcs) (λ funcs.
    and_then (procs_row a.0 taken (length funcs) [] s.procs) (λ procs. Ok (record { relations = a.0; funcs = funcs; procs = procs; hosts = hosts }))))) g a.2 in
    let c = then_ok (names_row b.0 (map (λ p. p.name) s.procs)) (λ taken. and_then (funcs_row a.0 taken [] s.funcs) (λ funcs. and_then (procs_row a.0 taken (length funcs) [] s.procs) (λ procs. Ok (record { relations = a.0; funcs = funcs; procs = procs; hosts = hosts })))) g b.2 in
    let d = then_ok (funcs_row a.0 c.0 [] s.funcs) (λ funcs. and_then (procs_row a.0 c.0 (length funcs) [] s.procs) (λ procs. Ok (record { relations = a.0; funcs = funcs; procs = procs; hosts = hosts }))) g c.2 in
    let f = then_ok (procs_row a.0 c.0 (length d.0) [] s.procs) (λ procs. Ok (record { relations = a.0; funcs = d.0; procs = procs; hosts = hosts })) g d.2 in
    let made : Env = record { relations = a.0; funcs = d.0; procs = f.0; hosts = hosts } in
    let same : made ≡ g = let z = f.2 in cc in
    let cat = relations_behind [] s.relations a.0 (omega arith) tt (All-nil IsDecl) m.relations a.1 in
    let schemas = schemas_in a.0 cat.decls in
    let fs = funcs_behind a.0 schemas c.0 [] s.funcs d.0 tt m.funcs d.1 in
    let ps = procs_behind a.0 schemas c.0 (length d.0) [] s.procs f.0 tt m.procs f.1 in
    let n = fs.many in
    let o = ps.many in
    subst (λ (z : Env). EnvBehind hosts s z) same
    (record { catalogue = cat; schemas = schemas; funcs = fs.good; funcs_many = omega (arith, n); procs = ps.good; procs_many = omega (arith, o); hosts_are = refl })

pub script_shaped : (hosts : List Host) (s : Script) (p : Program_tree) → AreHosts hosts → ScriptIsMade s → (typed : ElabScript hosts s p) → IsShaped p (specs_of hosts) (map without_names (types_found typed))
script_shaped hosts s _ hs m (script_is {g = g} {funcs = funcs} {all = all} {cs = cs} env ef ep em) =
    let k = env_behind hosts s g m env in
    let fe : List Entry = func_entries ef in
    let pe : List Entry = proc_entries ep in
    let main : Entry = entry_of [] false s.main cs (slots_acts em) None in
    let es : List Entry = main ∷ (fe ++ pe) in
    let p : Program_tree = program_with g s cs all in
    let rest_is : all ≡ bodies_in (fe ++ pe) = procs_are ep ∙ ap (λ bs. bs ++ bodies_in pe) (funcs_are ef) ∙ sym (map_append fe pe) in
    let bodies_are : p.bodies ≡ bodies_in es = ap (λ bs. main.body ∷ bs) rest_is in
    let forms : List Body_forms = forms_among es in
    let number : (i : ℕ) (e : Entry) → slice_get (fe ++ pe) i ≡ Some e → (slice_get p.bodies (1 + i) ≡ Some e.body) × (slice_get forms (1 + i) ≡ Some (forms_as e.types)) = λ i e h.
    (let there : slice_get es (1 + i) ≡ Some e = ap (λ z. slice_get es z) (let q : 1 + i ≡ suc i = omega arith in q) ∙ h in
    let both = entry_at es (1 + i) e there in (ap (λ bs. slice_get bs (1 + i)) bodies_are ∙ both.0, both.1)) in
    let fl = length-funcs ef k.funcs_many in
    let good : (r : Option Shape) (slots : List Slot) → EnvIsGood (inside g p.bodies forms (is_some r) slots (option_map form_of r)) = λ r slots. (record {
      schemas = k.schemas;
      funcs = λ name f e.
          (let h = func_found g.relations k.schemas 1 name f ef k.funcs k.funcs_many e in
          let b = number h.place h.entry (get_front fe pe h.place h.entry h.here) in
          let n = h.number in (
            record {
              body = h.entry.body;
              forms = forms_as h.entry.types;
              behind_main = omega (arith, n);
              body_is = ap (λ z. slice_get p.bodies z) n ∙ b.0;
              forms_are = ap (λ z. slice_get forms z) n ∙ b.1;
              func_is = h.callable.func_is;
              params_are = h.callable.params_are;
              result_is = h.callable.result_is;
            },
            h.good,
          ));
      procs = λ name f e.
          (let h = proc_found g.relations k.schemas (1 + length g.funcs) name f ep k.procs k.procs_many e in
          let b = number (length fe + h.place) h.entry (get_back fe pe h.place ∙ h.here) in
          let n = h.number in
          let at : f.number ≡ 1 + (length fe + h.place) = omega (arith, n, fl) in
          record {
            body = h.entry.body;
            forms = forms_as h.entry.types;
            behind_main = omega (arith, n);
            body_is = ap (λ z. slice_get p.bodies z) at ∙ b.0;
            forms_are = ap (λ z. slice_get forms z) at ∙ b.1;
            func_is = h.callable.func_is;
            params_are = h.callable.params_are;
            result_is = h.callable.result_is;
          });
    }) in
    let ff = funcs_fine g p.bodies forms k.schemas 1 ef good k.funcs m.funcs in
    let pf = procs_fine g p.bodies forms k.schemas (1 + length g.funcs) ep good k.procs m.procs in
    let mf : FineBody g p.bodies forms main (acts_nodes s.main) = body_fine g p.bodies forms None [] s.main cs em (good None) tt m.main (λ (e : false ≡ true). absurd cc) in
    let sound : AreSoundEntries g p.bodies forms es = (mf.sound, sound_append g p.bodies forms fe pe ff.sound pf.sound) in
    let specs : specs_of hosts ≡ specs_of g.hosts = ap specs_of k.hosts_are in
    let sz = size_bound main.body.block all in
    let bb = ap bound_bodies rest_is ∙ ap bound_bodies (map_append fe pe) ∙ bound_append (bodies_in fe) (bodies_in pe) in
    let s1 = ff.small in
    let s2 = pf.small in
    let s3 = mf.small in
    let few = m.few in
    let shaped : Shaped p (specs_of hosts) forms = record {
      relations = k.catalogue;
      specs = All-map (λ spec. is_spec spec ≡ true) (λ (h : Host). h.spec) hosts hs;
      main = record { body = main.body; here = refl; func = refl; params = refl };
      many = length-same es ∙ ap length (sym bodies_are);
      bodies = λ i b own e f. subst (λ z. IsBody (scope_of p z forms b own) b) (sym specs) (sound_at g p.bodies forms es i b own sound (ap (λ bs. slice_get bs i) (sym bodies_are) ∙ e) f);
      size = omega (arith, sz, bb, s1, s2, s3, few);
    } in
    let both : ShapedWith p (specs_of hosts) forms (map without_names (types_among es)) = record {
      shaped = shaped;
      gathers = λ i b own e f. subst (λ z. BlockGathers (scope_of p z forms b (body_forms own)) own.gathers b.block) (sym specs) (gathers_at g p.bodies forms es i b own sound (ap (λ bs. slice_get bs i) (sym bodies_are) ∙ e) f);
    } in
    let found : types_among es ≡ types_with [] (slots_acts em) None ∷ (func_types ef ++ proc_types ep) =
    ap (λ ts. main.types ∷ ts) (types_append fe pe ∙ ap (λ ts. ts ++ types_among pe) (funcs_found ef) ∙ ap (λ ts. func_types ef ++ ts) (procs_found ep)) in
    subst (λ (ts : List Body_types). IsShaped p (specs_of hosts) (map without_names ts)) found (shaped_as p (specs_of hosts) es both)

pub script_sound : (hosts : List Host) (s : Script) (p : Program_tree) → AreHosts hosts → ScriptIsMade s → ElabScript hosts s p → Sound p (specs_of hosts)
script_sound hosts s p hs m typed = let h = script_shaped hosts s p hs m typed in record { forms = map body_forms (map without_names (types_found typed)); shaped = h.shaped }
