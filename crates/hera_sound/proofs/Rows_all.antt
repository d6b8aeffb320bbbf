-- Each row of the table of typing for phrases of a list of operands keeps what is promised.
use Rattle.std.proofs.Common.{◌≡◌, ℕ, zero, suc, ◌<◌, ◌≤◌, ◌+◌, List, [], ◌∷◌, ◌++◌, length, refl, sym, ap, ◌∙◌, subst, arith, Bool, true, false, append-nil}
use Rattle.std.specs.Prelude.{Ok, Err, Option, Some, None, cond, map, replicate, nat_lt}
use Rattle.std.specs.List.{list_all}
use Rattle.hera_sets.specs.Rows.{is_same}
use Rattle.hera_meaning.specs.declared.hosts.HostSpec.{HostSpec}
use Rattle.hera_meaning.specs.declared.scalars.Kind.{Kind}
use Rattle.hera_meaning.specs.declared.scalars.Sign.{Sign}
use Rattle.hera_meaning.specs.declared.schemas.Attr.{Attr}
use Rattle.hera_meaning.specs.declared.trees.Op.TheVariants.{MakeRow, MakeRel, Atom as atom_op}
use Rattle.hera_meaning.specs.declared.trees.Shape.{Shape}
use Rattle.hera_meaning.specs.declared.trees.Shape.TheVariants.{Tuple as tuple, Rel as rel, Delta as delta}
use Rattle.hera_meaning.specs.Schemas.{IsSchema}
use Rattle.hera_meaning.specs.Deltas.{schema_of}
use Rattle.hera_meaning.specs.Hosts.{host_at, host_takes, host_gives}
use Rattle.hera_meaning.specs.Forms.{Form, of_scalar, of_delta, form_of, kinds_of}
use Rattle.hera_meaning.specs.Trees.{prim, call, host}
use Rattle.hera_meaning.specs.Sound.{IsOf, AreOf, LinksAreOf, IsCallee, walks_in, walks_in_all, walks_in_links}
use Rattle.hera_meaning.specs.Shapes.{Gathers, GathersAll, GathersLinks}
use Rattle.hera_host.specs.Tables.{Host, specs_of, host_named, takes_at, gives_at}
use Rattle.hera_rules.specs.declared.words.Word.{Word}
use Rattle.hera_rules.specs.declared.env.FuncSig.{FuncSig}
use Rattle.hera_rules.specs.declared.fault.TypeFault.TheVariants.{Mismatch as mismatch, TooMany as too_many}
use Rattle.hera_rules.specs.Environments.{Env, func_named, relation_named, is_global}
use Rattle.hera_rules.specs.Same.{same_shapes}
use Rattle.hera_rules.specs.Rules.{Typing, typing, given, is_scalar, scalar_kind, kind_type, types_of, exprs_from, one_expr, params_of, host_row, call_of, call_row, repeat_in, attrs_of, row_row, kind_types, make_row, atom_of, atom_row, merges_from, atoms_core, atoms_row, line_of, line_row, lines_of, lines_row}
use Rattle.hera_sound.proofs.Tests.{given_true, unless_none, cond_second, and_true, found_within, is_scalar-true, same_shapes-true}
use Rattle.hera_sound.proofs.Schemas.{row_schema, not_above}
use Rattle.hera_sound.proofs.Sizes.{bound, bound_all, bound_links}
use Rattle.hera_sound.proofs.Rows_one.{relation_in}
use Rattle.hera_sound.proofs.Fine.{Inside, env_in, scope, gathers_in, EnvIsGood, Fine, FineAll, forms_of, forms_in, into, moved, one_prim, all_prim, all_call, kind_form, kind_good, kind_forms, params_forms}

-- all phrases have this type
abbrev pub AllHave : Shape → List Typing → Type 0
AllHave t [] = Unit {0}
AllHave t (v ∷ vs) = (v.type ≡ t) × AllHave t vs

pub have_more : (t : Shape) (vs : List Typing) (v : Typing) → AllHave t vs → v.type ≡ t → AllHave t (vs ++ v ∷ [])
have_more t [] v h e = (e, tt)
have_more t (w ∷ vs) v h e = (h.0, have_more t vs v h.1 e)

-- what the host of a number takes and gives
pub record IsHost (hosts : List Host) (h : ℕ) : Type 0 where
  pub spec : HostSpec
  pub here : host_at (specs_of hosts) h ≡ Some spec
  pub takes : takes_at hosts h ≡ host_takes spec
  pub gives : gives_at hosts h ≡ host_gives spec

host_in : (hosts : List Host) (h : ℕ) → h < length hosts → IsHost hosts h
host_in [] h l = absurd (omega arith)
host_in (x ∷ hosts) zero l = record { spec = x.spec; here = refl; takes = refl; gives = refl }
host_in (x ∷ hosts) (suc h) l = let k = host_in hosts h (omega arith) in record { spec = k.spec; here = k.here; takes = k.takes; gives = k.gives }

row_forms : (ws : List Word) (vs : List Typing) → length ws ≡ length vs → list_all is_scalar (types_of vs) ≡ true → forms_in (types_of vs) ≡ map of_scalar (kinds_of (attrs_of ws vs))
row_forms [] [] n e = refl
row_forms [] (v ∷ vs) n e = absurd (omega arith)
row_forms (w ∷ ws) [] n e = absurd (omega arith)
row_forms (w ∷ ws) (v ∷ vs) n e =
    let h = and_true (is_scalar v.type) (list_all is_scalar (types_of vs)) e in
    ap (λ f. f ∷ forms_in (types_of vs)) (is_scalar-true v.type h.0) ∙ ap (λ fs. of_scalar (scalar_kind v.type) ∷ fs) (row_forms ws vs (omega arith) h.1)

rows_forms : (t : Shape) (vs : List Typing) → AllHave t vs → forms_in (types_of vs) ≡ replicate (length vs) (form_of t)
rows_forms t [] h = refl
rows_forms t (v ∷ vs) h = ap (λ (u : Shape). form_of u ∷ forms_in (types_of vs)) h.0 ∙ ap (λ fs. form_of t ∷ fs) (rows_forms t vs h.1)

walks_merges : (at : ℕ) (vs : List Typing) → walks_in_links (merges_from at vs) ≡ walks_in_all (exprs_from vs)
walks_merges at [] = refl
walks_merges at (v ∷ vs) = ap (λ zs. walks_in v.core ++ zs) (walks_merges at vs)

small_merges : (at : ℕ) (vs : List Typing) → bound_links (merges_from at vs) ≤ bound_all (exprs_from vs)
small_merges at [] = omega arith
small_merges at (v ∷ vs) = let h = small_merges at vs in omega (arith, h)

walks_atoms : (at : ℕ) (vs : List Typing) → walks_in (atoms_core at vs) ≡ walks_in_all (exprs_from vs)
walks_atoms at [] = refl
walks_atoms at (v ∷ []) = sym (append-nil (walks_in v.core))
walks_atoms at (v ∷ w ∷ vs) = ap (λ zs. walks_in v.core ++ zs) (walks_merges at (w ∷ vs))

small_atoms : (at : ℕ) (vs : List Typing) → bound (atoms_core at vs) ≤ bound_all (exprs_from vs) + 1
small_atoms at [] = omega arith
small_atoms at (v ∷ []) = omega arith
small_atoms at (v ∷ w ∷ vs) = let h = small_merges at (w ∷ vs) in omega (arith, h)

module _ {g : Env} (x : Inside g) (env : EnvIsGood x) (rs : List ℕ) where
  -- ---- calls

  pub call_fine : (ws : List ℕ) (b : ℕ) (w : Word) (vs : List Typing) (r : Typing) → call_row (env_in x) w vs ≡ Ok r → FineAll x rs ws b vs → Fine x rs ws (b + 4) r
  call_fine ws b w vs r e f = by (func_named w.name (env_in x).funcs) refl e
    where
      by_host : (o : Option ℕ) → host_named w.name (env_in x).hosts ≡ o → host_row (env_in x) w vs o ≡ Ok r → Fine x rs ws (b + 4) r
      by_host None k e = absurd cc
      by_host (Some h) k e =
          let out : Typing = typing (kind_type (gives_at (env_in x).hosts h)) (host h (exprs_from vs)) in
          let g = given_true (same_shapes (kind_type (takes_at (env_in x).hosts h) ∷ []) (types_of vs)) (mismatch w.at) out r e in
          let i = host_in (env_in x).hosts h (found_within (λ (y : Host). is_same w.name y.name) (env_in x).hosts h k) in
          let t : (kind_type (takes_at (env_in x).hosts h) ∷ []) ≡ types_of vs = same_shapes-true (kind_type (takes_at (env_in x).hosts h) ∷ []) (types_of vs) g.0 in
          let fs : forms_in (types_of vs) ≡ (of_scalar (host_takes i.spec) ∷ []) =
          ap (λ (ts : List Shape). forms_in ts) (sym t) ∙ ap (λ (z : Form). z ∷ []) (kind_form (takes_at (env_in x).hosts h)) ∙ ap (λ (k : Kind). of_scalar k ∷ []) i.takes in
          let s = f.small in
          into x rs ws (b + 4) out r g.1
          (record {
            of = (i.spec, i.here, subst (λ (z : List Form). AreOf (scope x) rs (exprs_from vs) z) fs f.of, kind_form (gives_at (env_in x).hosts h) ∙ ap (λ (k : Kind). of_scalar k) i.gives);
            good = kind_good (gives_at (env_in x).hosts h);
            walks = f.walks;
            gathers = f.gathers;
            small = omega (arith, s);
          })

      by_global : (c : Bool) → cond c (Err (mismatch w.at)) (host_row (env_in x) w vs (host_named w.name (env_in x).hosts)) ≡ Ok r → Fine x rs ws (b + 4) r
      by_global true e = absurd cc
      by_global false e = by_host (host_named w.name (env_in x).hosts) refl e

      by : (o : Option FuncSig) → func_named w.name (env_in x).funcs ≡ o → call_of (env_in x) w vs o ≡ Ok r → Fine x rs ws (b + 4) r
      by (Some s) k e =
          let out : Typing = typing s.result (call s.number (exprs_from vs)) in
          let g = given_true (same_shapes (params_of s.params) (types_of vs)) (mismatch w.at) out r e in
          let i = env.funcs w.name s k in
          let fs : forms_of s.params ≡ forms_in (types_of vs) = params_forms s.params ∙ ap (λ (ts : List Shape). forms_in ts) (same_shapes-true (params_of s.params) (types_of vs) g.0) in
          into x rs ws (b + 4) out r g.1
          (all_call x rs ws b vs s.number s.result (subst (λ (z : List Form). IsCallee (scope x) s.number true z (Some (form_of s.result))) fs i.0) i.1 f)
      by None k e = by_global (is_global (env_in x) w.name) e

  -- ---- rows

  pub row_fine : (ws : List ℕ) (b at : ℕ) (names : List Word) (vs : List Typing) (r : Typing) → 1 ≤ length names → length names ≡ length vs → row_row at names vs ≡ Ok r →
      FineAll x rs ws b vs → Fine x rs ws (b + 4) r
  row_fine ws b at names vs r some n e f =
      let s : List Attr = attrs_of names vs in
      let out : Typing = typing (tuple s) (prim (MakeRow s) (exprs_from vs) at) in
      let p = unless_none (repeat_in [] names) (cond (nat_lt 16 (length names)) (Err (too_many at)) (given (list_all is_scalar (types_of vs)) (mismatch at) out)) r e in
      let q = cond_second (nat_lt 16 (length names)) (too_many at) (given (list_all is_scalar (types_of vs)) (mismatch at) out) r p.1 in
      let g = given_true (list_all is_scalar (types_of vs)) (mismatch at) out r q.1 in
      let k = row_schema names vs n some (not_above 16 (length names) q.0) p.0 in
      into x rs ws (b + 4) out r g.1 (all_prim x rs ws b vs (MakeRow s) at (tuple s) (record { good = refl; forms = (row_forms names vs n g.0, refl) }) k f)

  made_fine : (ws : List ℕ) (b at : ℕ) (s : List Attr) (vs : List Typing) → IsSchema s → kind_types s ≡ types_of vs → FineAll x rs ws b vs → Fine x rs ws (b + 4) (typing (tuple s) (make_row s vs at))
  made_fine ws b at s vs k e f =
      all_prim x rs ws b vs (MakeRow s) at (tuple s) (record { good = refl; forms = (ap (λ (ts : List Shape). forms_in ts) (sym e) ∙ kind_forms s, refl) }) k f

  pub atom_fine : (ws : List ℕ) (b : ℕ) (sign : Sign) (w : Word) (vs : List Typing) (r : Typing) → atom_row (env_in x) sign w vs ≡ Ok r → FineAll x rs ws b vs → Fine x rs ws (b + 8) r
  atom_fine ws b sign w vs r e f = by (relation_named w.name (env_in x).relations) refl e
    where
      by : (o : Option ℕ) → relation_named w.name (env_in x).relations ≡ o → atom_of (env_in x) sign w vs o ≡ Ok r → Fine x rs ws (b + 8) r
      by None k e = absurd cc
      by (Some i) k e =
          let s : List Attr = schema_of (env_in x).relations i in
          let out : Typing = typing delta (prim (atom_op sign (record { 0 = i })) (one_expr (make_row s vs w.at)) w.at) in
          let g = given_true (same_shapes (kind_types s) (types_of vs)) (mismatch w.at) out r e in
          let n = relation_in w.name (env_in x).relations i k in
          let m = made_fine ws b w.at s vs (env.schemas i n) (same_shapes-true (kind_types s) (types_of vs) g.0) f in
          moved x rs ws ws (b + 4 + 4) (b + 8) r refl (omega arith)
          (into x rs ws (b + 4 + 4) out r g.1
          (one_prim x rs ws (b + 4) (typing (tuple s) (make_row s vs w.at)) (atom_op sign (record { 0 = i })) w.at delta (record { good = refl; forms = ((refl, refl), n) }) tt m))

  pub line_fine : (ws : List ℕ) (b : ℕ) (w : Word) (at : ℕ) (vs : List Typing) (r : Typing) → line_row (env_in x) w at vs ≡ Ok r → FineAll x rs ws b vs → Fine x rs ws (b + 4) r
  line_fine ws b w at vs r e f = by (relation_named w.name (env_in x).relations) refl e
    where
      by : (o : Option ℕ) → relation_named w.name (env_in x).relations ≡ o → line_of (env_in x) w at vs o ≡ Ok r → Fine x rs ws (b + 4) r
      by None k e = absurd cc
      by (Some i) k e =
          let s : List Attr = schema_of (env_in x).relations i in
          let g = given_true (same_shapes (kind_types s) (types_of vs)) (mismatch at) (typing (tuple s) (make_row s vs at)) r e in
          let n = relation_in w.name (env_in x).relations i k in
          into x rs ws (b + 4) (typing (tuple s) (make_row s vs at)) r g.1 (made_fine ws b at s vs (env.schemas i n) (same_shapes-true (kind_types s) (types_of vs) g.0) f)

  pub lines_fine : (ws : List ℕ) (b : ℕ) (w : Word) (at : ℕ) (vs : List Typing) (r : Typing) → lines_row (env_in x) w at vs ≡ Ok r →
      ((i : ℕ) → relation_named w.name (env_in x).relations ≡ Some i → AllHave (tuple (schema_of (env_in x).relations i)) vs) → FineAll x rs ws b vs → Fine x rs ws (b + 4) r
  lines_fine ws b w at vs r e t f = by (relation_named w.name (env_in x).relations) refl e
    where
      by : (o : Option ℕ) → relation_named w.name (env_in x).relations ≡ o → lines_of (env_in x) w at vs o ≡ Ok r → Fine x rs ws (b + 4) r
      by None k e = absurd cc
      by (Some i) k e =
          let s : List Attr = schema_of (env_in x).relations i in
          let h : typing (rel s) (prim (MakeRel (length vs)) (exprs_from vs) at) ≡ r = cc in
          let n = relation_in w.name (env_in x).relations i k in
          into x rs ws (b + 4) (typing (rel s) (prim (MakeRel (length vs)) (exprs_from vs) at)) r h
          (all_prim x rs ws b vs (MakeRel (length vs)) at (rel s) (record { good = refl; forms = (kinds_of s, rows_forms (tuple s) vs (t i k), refl) }) (env.schemas i n) f)

  -- ---- deltas

  merges_of : (at : ℕ) (vs : List Typing) → AllHave delta vs → AreOf (scope x) rs (exprs_from vs) (forms_in (types_of vs)) → LinksAreOf (scope x) rs (merges_from at vs) of_delta of_delta
  merges_of at [] t h = refl
  merges_of at (v ∷ vs) t h =
      (of_delta, of_delta, subst (λ (u : Shape). IsOf (scope x) rs v.core (form_of u)) t.0 h.0, record { good = refl; forms = (refl, refl) }, merges_of at vs t.1 h.1)

  atoms_of : (at : ℕ) (vs : List Typing) → AllHave delta vs → AreOf (scope x) rs (exprs_from vs) (forms_in (types_of vs)) → IsOf (scope x) rs (atoms_core at vs) of_delta
  atoms_of at [] t h = (refl, refl)
  atoms_of at (v ∷ []) t h = subst (λ (u : Shape). IsOf (scope x) rs v.core (form_of u)) t.0 h.0
  atoms_of at (v ∷ w ∷ vs) t h = (of_delta, subst (λ (u : Shape). IsOf (scope x) rs v.core (form_of u)) t.0 h.0, merges_of at (w ∷ vs) t.1 h.1)

  merges_gather : (at : ℕ) (vs : List Typing) → GathersAll (scope x) (gathers_in x) (exprs_from vs) → GathersLinks (scope x) (gathers_in x) (merges_from at vs)
  merges_gather at [] h = tt
  merges_gather at (v ∷ vs) h = (h.0, merges_gather at vs h.1)

  atoms_gather : (at : ℕ) (vs : List Typing) → GathersAll (scope x) (gathers_in x) (exprs_from vs) → Gathers (scope x) (gathers_in x) (atoms_core at vs)
  atoms_gather at [] h = tt
  atoms_gather at (v ∷ []) h = h.0
  atoms_gather at (v ∷ w ∷ vs) h = (h.0, merges_gather at (w ∷ vs) h.1)

  pub atoms_fine : (ws : List ℕ) (b at : ℕ) (vs : List Typing) → AllHave delta vs → FineAll x rs ws b vs → Fine x rs ws (b + 4) (atoms_row at vs)
  atoms_fine ws b at vs t f =
      let s = f.small in
      let k = small_atoms at vs in
      record { of = atoms_of at vs t f.of; good = tt; walks = walks_atoms at vs ∙ f.walks; gathers = atoms_gather at vs f.gathers; small = omega (arith, s, k) }

-- ---- the types of atoms and lines

pub atom_type : (g : Env) (sign : Sign) (w : Word) (vs : List Typing) (r : Typing) → atom_row g sign w vs ≡ Ok r → r.type ≡ delta
atom_type g sign w vs r e = by (relation_named w.name g.relations) e
  where
    by : (o : Option ℕ) → atom_of g sign w vs o ≡ Ok r → r.type ≡ delta
    by None e = absurd cc
    by (Some i) e =
        let s : List Attr = schema_of g.relations i in
        let h = given_true (same_shapes (kind_types s) (types_of vs)) (mismatch w.at) (typing delta (prim (atom_op sign (record { 0 = i })) (one_expr (make_row s vs w.at)) w.at)) r e in
        ap (λ (v : Typing). v.type) (sym h.1)

pub line_type : (g : Env) (w : Word) (at : ℕ) (vs : List Typing) (r : Typing) (i : ℕ) → line_row g w at vs ≡ Ok r → relation_named w.name g.relations ≡ Some i → r.type ≡ tuple (schema_of g.relations i)
line_type g w at vs r i e k =
    let s : List Attr = schema_of g.relations i in
    let e' : line_of g w at vs (Some i) ≡ Ok r = ap (λ (o : Option ℕ). line_of g w at vs o) (sym k) ∙ e in
    let h = given_true (same_shapes (kind_types s) (types_of vs)) (mismatch at) (typing (tuple s) (make_row s vs at)) r e' in
    ap (λ (v : Typing). v.type) (sym h.1)
