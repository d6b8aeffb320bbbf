-- A sound program that is bound to a catalogue which has its relations is sound.
use Rattle.std.proofs.Common.{◌≡◌, ℕ, zero, suc, ◌<◌, ◌≤◌, ◌+◌, List, [], ◌∷◌, ◌++◌, length, refl, sym, ap, ◌∙◌, subst, arith, Bool, true, false}
use Rattle.std.specs.Prelude.{Option, Some, None, ◌||◌, cond, map, slice_get, All}
use Rattle.std.specs.Option.{option_map}
use Rattle.std.specs.List.{position_from}
use Rattle.std.proofs.lemmas.Option.{slice_get-map, slice_get_within}
use Rattle.hera_sets.specs.Rows.{Row, is_same, holds}
use Rattle.hera_sets.proofs.Order.{same_true, same_itself}
use Rattle.hera_meaning.specs.declared.schemas.RelDecl.{RelDecl}
use Rattle.hera_meaning.specs.declared.schemas.Attr.{Attr}
use Rattle.hera_meaning.specs.declared.trees.Op.{Op}
use Rattle.hera_meaning.specs.declared.trees.Op.TheVariants.{Atom as atom_op, Bulk, Ins, Del}
use Rattle.hera_meaning.specs.Schemas.{AreDistinct}
use Rattle.hera_meaning.specs.Catalogues.{IsCatalogue, decl_name}
use Rattle.hera_meaning.specs.Deltas.{schema_of}
use Rattle.hera_meaning.specs.Hosts.{Hosts}
use Rattle.hera_meaning.specs.Forms.{Form, of_tuple, of_table, of_delta, bool_form, kinds_of, OpIsOf}
use Rattle.hera_meaning.specs.Trees.{Expr, constant, local, relation, prim, chain, and_all, or_any, when, select, map_each, call, host, Exprs, no_more, then_expr, Links, no_link, link, Hypos, no_hypo, hypo, Command, set_slot, if_arms, while, foreach, print, apply, commit, rollback, assert, return, return_value, call_proc, Block, no_stmt, then_stmt, Arms, no_arm, arm, Body_tree, Program_tree}
use Rattle.hera_meaning.specs.Sound.{Scope, Body_forms, IsCallee, IsNotNone, IsOf, AreOf, AreBools, LinksAreOf, AreDeltas, IsSound, BlockIsSound, ArmsAreSound, sets_of, sets_of_block, sets_of_arms, readable_after, AreApart, first_slots, IsBody, scope_of, Sound}
use Rattle.hera_meaning.specs.Addresses.{bodies_end, block_end, size_of}
use Rattle.hera_rules.specs.Environments.{relation_named}
use Rattle.hera_rules.specs.Bound.{number_or, number_in, bound_op, bound_expr, bound_exprs, bound_links, bound_hypos, bound_command, bound_block, bound_arms, bound_body, bound, Has}
use Rattle.hera_bind.specs.Having.{AllHas}
use Rattle.hera_bind.proofs.Ends.{sets_same, sets_same_block, sets_same_arms, readable_same, walks_same_block, returns_same, block_end_same, bodies_end_same}

-- ---- numbers

-- the relation of a number has this number in the catalogue
record IsNumbered (own catalogue : List RelDecl) (r : ℕ) : Type 0 where
  pub within : number_in own catalogue r < length catalogue
  pub schema : schema_of catalogue (number_in own catalogue r) ≡ schema_of own r

or_back : (b c : Bool) → c ≡ true → (b || c) ≡ true
or_back true c e = refl
or_back false c e = e

named_within : (rels : List RelDecl) (k : ℕ) (e : RelDecl) (name : Row) → slice_get rels k ≡ Some e → e.name ≡ name → holds (map decl_name rels) name ≡ true
named_within [] k e name h n = absurd cc
named_within (d ∷ rels) zero e name h n =
    let s : d ≡ e = cc in
    ap (λ z. is_same name z || holds (map decl_name rels) name) (ap (λ (x : RelDecl). x.name) s ∙ n) ∙ ap (λ b. b || holds (map decl_name rels) name) (same_itself name)
named_within (d ∷ rels) (suc k) e name h n = or_back (is_same name d.name) (holds (map decl_name rels) name) (named_within rels k e name h n)

-- in a catalogue the relation of a name is found at its place
pub named_at : (i : ℕ) (rels : List RelDecl) (k : ℕ) (e : RelDecl) (name : Row) → AreDistinct (map decl_name rels) → slice_get rels k ≡ Some e → e.name ≡ name → position_from (λ (d : RelDecl). is_same name d.name) i rels ≡ Some (i + k)
named_at i [] k e name d h n = absurd cc
named_at i (x ∷ rels) zero e name d h n =
    let s : x ≡ e = cc in
    let t : is_same name x.name ≡ true = ap (λ z. is_same name z) (ap (λ (y : RelDecl). y.name) s ∙ n) ∙ same_itself name in
    rw t (ap (λ z. Some z) (let q : i ≡ i + 0 = omega arith in q))
named_at i (x ∷ rels) (suc k) e name d h n = by (is_same name x.name) refl (named_at (i + 1) rels k e name d.1 h n)
  where
    by : (b : Bool) → is_same name x.name ≡ b → position_from (λ (d : RelDecl). is_same name d.name) (i + 1) rels ≡ Some ((i + 1) + k) → cond b (Some i) (position_from (λ (d : RelDecl). is_same name d.name) (i + 1) rels) ≡ Some (i + suc k)
    by true t ih =
        let m : holds (map decl_name rels) x.name ≡ true = ap (λ z. holds (map decl_name rels) z) (sym (same_true name x.name t)) ∙ named_within rels k e name h n in
        let both : true ≡ false = sym m ∙ d.0 in absurd cc
    by false t ih = ih ∙ ap (λ z. Some z) (let q : (i + 1) + k ≡ i + suc k = omega arith in q)

schema_here : (rels : List RelDecl) (k : ℕ) (e : RelDecl) → slice_get rels k ≡ Some e → schema_of rels k ≡ e.schema
schema_here [] k e h = absurd cc
schema_here (x ∷ rels) zero e h = let s : x ≡ e = cc in ap (λ (y : RelDecl). y.schema) s
schema_here (x ∷ rels) (suc k) e h = schema_here rels k e h

has_number : (catalogue : List RelDecl) (d : RelDecl) → IsCatalogue catalogue → Has catalogue d → (k : ℕ) × (relation_named d.name catalogue ≡ Some k) × (k < length catalogue) × (schema_of catalogue k ≡ d.schema)
has_number catalogue d c h =
    let k : ℕ = h.0 in
    (k, named_at 0 catalogue k h.1 d.name c.distinct h.2 h.3 ∙ ap (λ z. Some z) (let q : 0 + k ≡ k = omega arith in q), slice_get_within catalogue k h.1 h.2, schema_here catalogue k h.1 h.2 ∙ h.4)

numbered : (own catalogue : List RelDecl) → IsCatalogue catalogue → AllHas catalogue own → (r : ℕ) → r < length own → IsNumbered own catalogue r
numbered [] catalogue c h r l = absurd (omega arith)
numbered (d ∷ own) catalogue c h zero l =
    let k = has_number catalogue d c h.0 in
    let n : number_in (d ∷ own) catalogue 0 ≡ k.0 = ap number_or k.1 in
    record { within = subst (λ z. z < length catalogue) (sym n) k.2; schema = ap (λ z. schema_of catalogue z) n ∙ k.3 }
numbered (d ∷ own) catalogue c h (suc r) l = let k = numbered own catalogue c h.1 r (omega arith) in record { within = k.within; schema = k.schema }

-- ---- phrases

module _ (own catalogue : List RelDecl) (known : (r : ℕ) → r < length own → IsNumbered own catalogue r) where
  op_kept : (op : Op) (fs : List Form) (f : Form) → OpIsOf own op fs f → OpIsOf catalogue (bound_op own catalogue op) fs f
  op_kept (atom_op sign r) fs f h =
      let k = known r.0 h.forms.1 in
      record { good = refl; forms = ((subst (λ (s : List Attr). fs ≡ of_tuple (kinds_of s) ∷ []) (sym k.schema) h.forms.0.0, h.forms.0.1), k.within) }
  op_kept (Bulk sign r) fs f h =
      let k = known r.0 h.forms.1 in
      record { good = refl; forms = ((subst (λ (s : List Attr). fs ≡ of_table (kinds_of s) ∷ []) (sym k.schema) h.forms.0.0, h.forms.0.1), k.within) }
  op_kept (Ins r) fs f h =
      let k = known r.0 h.forms.1 in
      record { good = refl; forms = ((h.forms.0.0, subst (λ (s : List Attr). f ≡ of_table (kinds_of s)) (sym k.schema) h.forms.0.1), k.within) }
  op_kept (Del r) fs f h =
      let k = known r.0 h.forms.1 in
      record { good = refl; forms = ((h.forms.0.0, subst (λ (s : List Attr). f ≡ of_table (kinds_of s)) (sym k.schema) h.forms.0.1), k.within) }
  op_kept _ fs f h = record { good = h.good; forms = h.forms }

  -- what phrases of the bound program are checked against
  abbrev moved : Scope → Scope
  moved sc = record sc { rels = catalogue; bodies = map (bound_body own catalogue) sc.bodies }

  callee_kept : (sc : Scope) (k : ℕ) (func : Bool) (params : List Form) (result : Option Form) → IsCallee sc k func params result → IsCallee (moved sc) k func params result
  callee_kept sc k func params result h = record {
    body = bound_body own catalogue h.body;
    forms = h.forms;
    behind_main = h.behind_main;
    body_is = slice_get-map (bound_body own catalogue) sc.bodies k ∙ ap (λ (o : Option Body_tree). option_map (bound_body own catalogue) o) h.body_is;
    forms_are = h.forms_are;
    func_is = h.func_is;
    params_are = h.params_are;
    result_is = h.result_is;
  }

  module _ (sc : Scope) (rels_are : sc.rels ≡ own) where
    op_moved : (op : Op) (fs : List Form) (f : Form) → OpIsOf sc.rels op fs f → OpIsOf catalogue (bound_op own catalogue op) fs f
    op_moved op fs f h = op_kept op fs f (subst (λ (rels : List RelDecl). OpIsOf rels op fs f) rels_are h)

    mutual
      of_kept : (rs : List ℕ) (e : Expr) (f : Form) → IsOf sc rs e f → IsOf (moved sc) rs (bound_expr own catalogue e) f
      of_kept rs (constant c) f h = h
      of_kept rs (local i) f h = h
      of_kept rs (relation r) f h =
          let k = known r (subst (λ (rels : List RelDecl). r < length rels) rels_are h.0) in
          (k.within, ap (λ (s : List Attr). of_table (kinds_of s)) (k.schema ∙ ap (λ (rels : List RelDecl). schema_of rels r) (sym rels_are)) ∙ h.1)
      of_kept rs (prim op args at) f h = (h.0, all_kept rs args h.0 h.1, op_moved op h.0 f h.2)
      of_kept rs (chain first links) f h = (h.0, of_kept rs first h.0 h.1, links_kept rs links h.0 f h.2)
      of_kept rs (and_all args) f h = (some_kept args h.0, bools_kept rs args h.1, h.2)
      of_kept rs (or_any args) f h = (some_kept args h.0, bools_kept rs args h.1, h.2)
      of_kept rs (when body hypos) f h = (deltas_kept rs hypos h.0, of_kept rs body f h.1)
      of_kept rs (select i of body) f h = (h.0, of_kept rs of (of_table h.0) h.1, h.2, of_kept (i ∷ rs) body bool_form h.3, h.4)
      of_kept rs (map_each i of body) f h = (h.0, h.1, of_kept rs of (of_table h.0) h.2, h.3, of_kept (i ∷ rs) body (of_tuple h.1) h.4, h.5)
      of_kept rs (call k args) f h = (h.0, all_kept rs args h.0 h.1, callee_kept sc k true h.0 (Some f) h.2)
      of_kept rs (host k args) f h = (h.0, h.1, all_kept rs args _ h.2, h.3)

      some_kept : (es : Exprs) → IsNotNone es → IsNotNone (bound_exprs own catalogue es)
      some_kept no_more h = h
      some_kept (then_expr e es) h = h

      all_kept : (rs : List ℕ) (es : Exprs) (fs : List Form) → AreOf sc rs es fs → AreOf (moved sc) rs (bound_exprs own catalogue es) fs
      all_kept rs no_more [] h = h
      all_kept rs no_more (f ∷ fs) h = h
      all_kept rs (then_expr e es) [] h = h
      all_kept rs (then_expr e es) (f ∷ fs) h = (of_kept rs e f h.0, all_kept rs es fs h.1)

      bools_kept : (rs : List ℕ) (es : Exprs) → AreBools sc rs es → AreBools (moved sc) rs (bound_exprs own catalogue es)
      bools_kept rs no_more h = h
      bools_kept rs (then_expr e es) h = (of_kept rs e bool_form h.0, bools_kept rs es h.1)

      links_kept : (rs : List ℕ) (ls : Links) (g f : Form) → LinksAreOf sc rs ls g f → LinksAreOf (moved sc) rs (bound_links own catalogue ls) g f
      links_kept rs no_link g f h = h
      links_kept rs (link op arg at rest) g f h = (h.0, h.1, of_kept rs arg h.0 h.2, op_moved op (g ∷ h.0 ∷ []) h.1 h.3, links_kept rs rest h.1 f h.4)

      deltas_kept : (rs : List ℕ) (hs : Hypos) → AreDeltas sc rs hs → AreDeltas (moved sc) rs (bound_hypos own catalogue hs)
      deltas_kept rs no_hypo h = h
      deltas_kept rs (hypo d at rest) h = (of_kept rs d of_delta h.0, deltas_kept rs rest h.1)

    mutual
      sound_kept : (seen rs inside : List ℕ) (c : Command) → IsSound sc seen rs inside c → IsSound (moved sc) seen rs inside (bound_command own catalogue c)
      sound_kept seen rs inside (set_slot i e) h = (h.0, h.1, of_kept rs e h.0 h.2, h.3)
      sound_kept seen rs inside (if_arms arms other) h =
          (arms_kept seen rs inside arms h.0, subst (λ (is : List ℕ). BlockIsSound (moved sc) (seen ++ is) rs inside (bound_block own catalogue other)) (sym (sets_same_arms own catalogue arms)) (block_kept (seen ++ sets_of_arms arms) rs inside other h.1))
      sound_kept seen rs inside (while c block) h = (of_kept rs c bool_form h.0, block_kept seen rs inside block h.1)
      sound_kept seen rs inside (foreach i of block) h = (h.0, of_kept rs of (of_table h.0) h.1, h.2, block_kept seen (i ∷ rs) (i ∷ inside) block h.3)
      sound_kept seen rs inside (print e shape) h = (of_kept rs e _ h.0, h.1)
      sound_kept seen rs inside (apply d at) h = (of_kept rs d of_delta h.0, h.1)
      sound_kept seen rs inside (commit label) h = h
      sound_kept seen rs inside rollback h = h
      sound_kept seen rs inside (assert c at) h = of_kept rs c bool_form h
      sound_kept seen rs inside return h = h
      sound_kept seen rs inside (return_value e) h = (h.0, of_kept rs e h.0 h.1, h.2, h.3)
      sound_kept seen rs inside (call_proc k args) h = (h.0, all_kept rs args h.0 h.1, callee_kept sc k false h.0 None h.2, h.3)

      block_kept : (seen rs inside : List ℕ) (b : Block) → BlockIsSound sc seen rs inside b → BlockIsSound (moved sc) seen rs inside (bound_block own catalogue b)
      block_kept seen rs inside no_stmt h = h
      block_kept seen rs inside (then_stmt c rest) h = (
        sound_kept seen rs inside c h.0,
        subst (λ (is : List ℕ). BlockIsSound (moved sc) (seen ++ is) (readable_after seen rs (bound_command own catalogue c)) inside (bound_block own catalogue rest)) (sym (sets_same own catalogue c))
            (subst (λ (js : List ℕ). BlockIsSound (moved sc) (seen ++ sets_of c) js inside (bound_block own catalogue rest)) (sym (readable_same own catalogue seen rs c)) (block_kept (seen ++ sets_of c) (readable_after seen rs c) inside rest h.1)),
      )

      arms_kept : (seen rs inside : List ℕ) (ar : Arms) → ArmsAreSound sc seen rs inside ar → ArmsAreSound (moved sc) seen rs inside (bound_arms own catalogue ar)
      arms_kept seen rs inside no_arm h = h
      arms_kept seen rs inside (arm c block rest) h = (
        of_kept rs c bool_form h.0,
        block_kept seen rs inside block h.1,
        subst (λ (is : List ℕ). ArmsAreSound (moved sc) (seen ++ is) rs inside (bound_arms own catalogue rest)) (sym (sets_same_block own catalogue block)) (arms_kept (seen ++ sets_of_block block) rs inside rest h.2),
      )

-- ---- programs

-- a body of a list that is changed body by body
body_before : (change : Body_tree → Body_tree) (bodies : List Body_tree) (k : ℕ) (b : Body_tree) → slice_get (map change bodies) k ≡ Some b → (c : Body_tree) × (slice_get bodies k ≡ Some c) × (change c ≡ b)
body_before change [] k b e = absurd cc
body_before change (c ∷ bodies) zero b e = (c, refl, let s : change c ≡ b = cc in s)
body_before change (c ∷ bodies) (suc k) b e = body_before change bodies k b e

length-bodies : (change : Body_tree → Body_tree) (bodies : List Body_tree) → length (map change bodies) ≡ length bodies
length-bodies change [] = refl
length-bodies change (b ∷ bodies) = ap (λ n. suc n) (length-bodies change bodies)

size_same : (own catalogue rels : List RelDecl) (bodies : List Body_tree) → size_of (record { relations = catalogue; bodies = map (bound_body own catalogue) bodies }) ≡ size_of (record { relations = rels; bodies = bodies })
size_same own catalogue rels [] = refl
size_same own catalogue rels (b ∷ bodies) = bodies_end_same own catalogue bodies (block_end (bound_block own catalogue b.block) 0 + 1) ∙ ap (λ k. bodies_end bodies (k + 1)) (block_end_same own catalogue b.block 0)

pub bound_sound : (p : Program_tree) (catalogue : List RelDecl) (hosts : Hosts) → IsCatalogue catalogue → AllHas catalogue p.relations → Sound p hosts → Sound (bound p catalogue) hosts
bound_sound p catalogue hosts c h s =
    let known : (r : ℕ) → r < length p.relations → IsNumbered p.relations catalogue r = numbered p.relations catalogue c h in
    let q = s.shaped in
    let change : Body_tree → Body_tree = bound_body p.relations catalogue in
    let body : (b : Body_tree) (own : Body_forms) → IsBody (scope_of p hosts s.forms b own) b → IsBody (scope_of (bound p catalogue) hosts s.forms (change b) own) (change b) = λ b own i. (record {
      params = i.params;
      slots = i.slots;
      result = i.result;
      returning = λ e. returns_same p.relations catalogue b.block ∙ i.returning e;
      walks_new = subst (λ (ws : List ℕ). All (λ k. b.params ≤ k) ws) (sym (walks_same_block p.relations catalogue b.block)) i.walks_new;
      walks_apart = subst (λ (ws : List ℕ). AreApart ws) (sym (walks_same_block p.relations catalogue b.block)) i.walks_apart;
      block = subst (λ (ws : List ℕ). BlockIsSound (record (scope_of (bound p catalogue) hosts s.forms b own) { walks = ws }) [] (first_slots b.params) [] (bound_block p.relations catalogue b.block)) (sym (walks_same_block p.relations catalogue b.block))
          (block_kept p.relations catalogue known (scope_of p hosts s.forms b own) refl [] (first_slots b.params) [] b.block i.block);
    }) in
    record {
      forms = s.forms;
      shaped = record {
        relations = c;
        specs = q.specs;
        main = record {
          body = change q.main.body;
          here = slice_get-map change p.bodies 0 ∙ ap (λ (o : Option Body_tree). option_map change o) q.main.here;
          func = q.main.func;
          params = q.main.params;
        };
        many = q.many ∙ sym (length-bodies change p.bodies);
        bodies = λ k b own e f.
            (let was = body_before change p.bodies k b e in
            subst (λ (z : Body_tree). IsBody (scope_of (bound p catalogue) hosts s.forms z own) z) was.2 (body was.0 own (q.bodies k was.0 own was.1 f)));
        size = let z = size_same p.relations catalogue p.relations p.bodies in let k = q.size in omega (arith, z, k);
      };
    }
