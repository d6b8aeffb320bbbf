-- Typed expressions keep what is promised.
use Rattle.std.proofs.Common.{◌≡◌, ℕ, suc, ◌≤◌, ◌+◌, ◌*◌, List, [], ◌∷◌, ◌++◌, length, refl, sym, ap, ◌∙◌, subst, arith, Bool, true, false, append_assoc, length-append, append-nil}
use Rattle.std.specs.Prelude.{Some, ◌||◌, nat_eq}
use Rattle.std.proofs.lemmas.Bool.{eq-eqb}
use Rattle.hera_meaning.specs.declared.trees.Shape.{Shape}
use Rattle.hera_meaning.specs.declared.trees.Shape.TheVariants.{Tuple as tuple, Rel as rel, Delta as delta}
use Rattle.hera_meaning.specs.Deltas.{schema_of}
use Rattle.hera_meaning.specs.Forms.{of_tuple, form_of, kinds_of}
use Rattle.hera_meaning.specs.Sound.{IsSlot, walks_in_all, has_slot}
use Rattle.hera_meaning.specs.Shapes.{IsGathered}
use Rattle.hera_rules.specs.declared.words.Word.{Word}
use Rattle.hera_rules.specs.declared.env.Local.{Local}
use Rattle.hera_rules.specs.Environments.{Env, relation_named}
use Rattle.hera_rules.specs.Phrases.{Phrase, Phrases, Uses}
use Rattle.hera_rules.specs.Rules.{Typing, typing, Step, exprs_from, chain_core}
use Rattle.hera_rules.specs.Typing.{slots_of, slots_of_all, slots_of_uses, Elab, ElabAll, ElabUses, literal_is, name_is, operation_is, atoms_are, pair_is, walk_is, none_are, more_are, no_use_is, use_is, prefix_is, field_is, project_is, rename_is, group_is, test_is, fold_is, bulk_is, part_is, call_is, row_is, atom_is, line_is, lines_is}
use Rattle.hera_sound.specs.Types_found.{Slot, walked, gathered, slots, slots_all, slots_uses}
use Rattle.hera_sound.proofs.Slots.{walk_places, Stand, stand_both, walk_places-append}
use Rattle.hera_sound.proofs.Made.{IsMade, AreMade, UsesAreMade, AreOfLevel, Level, IsAtom, AreAtoms, IsLine, AreLines, count_of, nodes, nodes_all, nodes_uses}
use Rattle.hera_sound.proofs.Fine.{Inside, env_in, scope, gathers_in, IsGood, EnvIsGood, IsVisible, AllVisible, Fine, FineAll, moved, slot_held, walk_gathers}
use Rattle.hera_sound.proofs.Rows_one.{IsWalked, walked_local, literal_fine, name_fine, prefix_fine, test_fine, field_fine, fold_fine, project_fine, rename_fine, group_fine, pair_fine, bulk_fine, part_fine, walk_fine}
use Rattle.hera_sound.proofs.Rows_all.{AllHave, have_more, call_fine, row_fine, atom_fine, line_fine, lines_fine, atoms_fine, atom_type, line_type}
use Rattle.hera_sound.proofs.Chains.{Steps, no_step, one_step, walks_steps, bound_steps, StepsGather, chain_fine}

-- ---- as many slots as a phrase declares

pub together : (xs ys : List Slot) (m n : ℕ) → length xs ≡ m → length ys ≡ n → length (xs ++ ys) ≡ m + n
together xs ys m n e f = let h = length-append xs ys in omega (arith, h, e, f)

mutual
  pub slots_many : {g : Env} {ls : List Local} {n : ℕ} {p : Phrase} {v : Typing} (e : Elab g ls n p v) → length (slots e) ≡ slots_of p
  slots_many literal_is = refl
  slots_many (name_is r) = refl
  slots_many (operation_is {p = p} {rest = rest} e u) = together (slots e) (slots_uses u) (slots_of p) (slots_of_uses rest) (slots_many e) (uses_many u)
  slots_many (prefix_is e r) = slots_many e
  slots_many (field_is e r) = slots_many e
  slots_many (project_is e r) = slots_many e
  slots_many (rename_is e r) = slots_many e
  slots_many (group_is e r) = slots_many e
  slots_many (test_is e r) = slots_many e
  slots_many (fold_is e r) = slots_many e
  slots_many (bulk_is e r) = slots_many e
  slots_many (part_is e r) = slots_many e
  slots_many (call_is e r) = all_many e
  slots_many (row_is e r) = all_many e
  slots_many (atom_is e r) = all_many e
  slots_many (line_is e r) = all_many e
  slots_many (lines_is e r) = all_many e
  slots_many (atoms_are e) = all_many e
  slots_many (pair_is {p = p} {q = q} e d r) = together (slots e) (slots d) (slots_of p) (slots_of q) (slots_many e) (slots_many d)
  slots_many (walk_is {of = of} {body = body} e b d r) = let h = together (slots e) (slots d) (slots_of of) (slots_of body) (slots_many e) (slots_many d) in omega (arith, h)

  pub all_many : {g : Env} {ls : List Local} {n : ℕ} {vs all : List Typing} {ps : Phrases} (e : ElabAll g ls n vs ps all) → length (slots_all e) ≡ slots_of_all ps
  all_many none_are = refl
  all_many (more_are {p = p} {rest = rest} e es) = together (slots e) (slots_all es) (slots_of p) (slots_of_all rest) (slots_many e) (all_many es)

  pub uses_many : {g : Env} {ls : List Local} {n : ℕ} {t r : Shape} {us : Uses} {is all : List Step} (e : ElabUses g ls n t is us r all) → length (slots_uses e) ≡ slots_of_uses us
  uses_many no_use_is = refl
  uses_many (use_is {p = p} {rest = rest} e j u) = together (slots e) (slots_uses u) (slots_of p) (slots_of_uses rest) (slots_many e) (uses_many u)

-- ---- the types of atoms and lines

line_has : {g : Env} {ls : List Local} {n : ℕ} {p : Phrase} {v : Typing} (w : Word) (i : ℕ) → relation_named w.name g.relations ≡ Some i → Elab g ls n p v → IsLine w p → v.type ≡ tuple (schema_of g.relations i)
line_has {g = g} w i k (line_is {w = u} {at = at} {vs = vs} {r = r} e row) h = line_type g u at vs r i row (ap (λ (z : Word). relation_named z.name g.relations) h ∙ k)
line_has w i k _ h = absurd h

atom_has : {g : Env} {ls : List Local} {n : ℕ} {p : Phrase} {v : Typing} → Elab g ls n p v → IsAtom p → v.type ≡ delta
atom_has {g = g} (atom_is {sign = sign} {w = w} {vs = vs} {r = r} e row) h = atom_type g sign w vs r row
atom_has _ h = absurd h

lines_have : {g : Env} {ls : List Local} {n : ℕ} {vs all : List Typing} {ps : Phrases} (w : Word) (i : ℕ) → relation_named w.name g.relations ≡ Some i → ElabAll g ls n vs ps all → AreLines w ps →
    AllHave (tuple (schema_of g.relations i)) vs → AllHave (tuple (schema_of g.relations i)) all
lines_have w i k none_are h t = t
lines_have {g = g} {vs = vs} w i k (more_are {v = v} e es) h t = lines_have w i k es h.1 (have_more (tuple (schema_of g.relations i)) vs v t (line_has w i k e h.0))

atoms_have : {g : Env} {ls : List Local} {n : ℕ} {vs all : List Typing} {ps : Phrases} → ElabAll g ls n vs ps all → AreAtoms ps → AllHave delta vs → AllHave delta all
atoms_have none_are h t = t
atoms_have {vs = vs} (more_are {v = v} e es) h t = atoms_have es h.1 (have_more delta vs v t (atom_has e h.0))

-- ---- locals

pub visible_more : {g : Env} (x : Inside g) (rs : List ℕ) (ls : List Local) (l : Local) → AllVisible x rs ls → IsVisible x rs l → AllVisible x rs (ls ++ l ∷ [])
visible_more x rs [] l v k = (k, tt)
visible_more x rs (m ∷ ls) l v k = (v.0, visible_more x rs ls l v.1 k)

or_true : (b c : Bool) → c ≡ true → (b || c) ≡ true
or_true true c e = refl
or_true false c e = e

-- one more slot is readable
pub visible_in : {g : Env} (x : Inside g) (rs : List ℕ) (i : ℕ) (ls : List Local) → AllVisible x rs ls → AllVisible x (i ∷ rs) ls
visible_in x rs i [] v = tt
visible_in x rs i (l ∷ ls) v = (record { readable = or_true (nat_eq l.slot i) (has_slot rs l.slot) v.0.readable; slot = v.0.slot; good = v.0.good }, visible_in x rs i ls v.1)

-- the variable of a walk is visible in its body
pub variable_visible : {g : Env} (x : Inside g) (rs : List ℕ) (n : ℕ) (w : Word) (t : Shape) (l : Local) → IsWalked w n t l → IsGood t → IsSlot (scope x) n (form_of l.shape) → IsVisible x (n ∷ rs) l
variable_visible x rs n w t l h g s = record {
  readable = ap (λ b. b || has_slot rs l.slot) (eq-eqb l.slot n (sym h.slot_is));
  slot = subst (λ (i : ℕ). IsSlot (scope x) i (form_of l.shape)) h.slot_is s;
  good = subst (λ (u : Shape). IsGood u) h.shape_is (good_rel (subst (λ (u : Shape). IsGood u) h.over_is g));
}
  where
    good_rel : IsGood (rel h.schema) → IsGood (tuple h.schema)
    good_rel k = k

-- ---- what is promised of lists and of the rest of a chain

pub record FineMore {g : Env} (x : Inside g) (rs ws : List ℕ) (b count : ℕ) (vs all : List Typing) : Type 0 where
  pub news : List Typing
  pub all_is : all ≡ vs ++ news
  pub many : length news ≡ count
  pub fine : FineAll x rs ws b news

pub record FineUses {g : Env} (x : Inside g) (rs ws : List ℕ) (b : ℕ) (l : Level) (t t' : Shape) (is all : List Step) : Type 0 where
  pub news : List Step
  pub all_is : all ≡ is ++ news
  pub steps : Steps x rs l t news t'
  pub walks : walks_steps news ≡ ws
  pub gathers : StepsGather x news
  pub small : bound_steps news ≤ b

-- all of a list that begins here
pub fine_list : {g : Env} (x : Inside g) (rs ws : List ℕ) (b count : ℕ) (all : List Typing) → FineMore x rs ws b count [] all → FineAll x rs ws b all
fine_list x rs ws b count all h = subst (λ (vs : List Typing). FineAll x rs ws b vs) (sym h.all_is) h.fine

list_many : {g : Env} (x : Inside g) (rs ws : List ℕ) (b count : ℕ) (all : List Typing) → FineMore x rs ws b count [] all → length all ≡ count
list_many x rs ws b count all h = ap length h.all_is ∙ h.many

room : {g : Env} (x : Inside g) (rs ws : List ℕ) (k b : ℕ) (v : Typing) → b ≤ k → Fine x rs ws b v → Fine x rs ws k v
room x rs ws k b v l h = moved x rs ws ws b k v refl l h

mutual
  pub fine : {g : Env} (x : Inside g) (env : EnvIsGood x) (rs : List ℕ) {ls : List Local} {n : ℕ} {p : Phrase} {v : Typing} (e : Elab g ls n p v) → IsMade p → AllVisible x rs ls → Stand x.slots n (slots e) →
      Fine x rs (walk_places n (slots e)) (10 * nodes p) v
  fine x env rs (literal_is {c = c}) m vis st = literal_fine x env rs c m
  fine x env rs (name_is {ls = ls} {w = w} {v = v} r) m vis st = name_fine x env rs ls w v vis r
  fine x env rs (prefix_is {n = n} {op = op} {at = at} {p = p} {v = v} {r = r} e row) m vis st =
      room x rs (walk_places n (slots e)) (10 * (1 + nodes p)) (10 * nodes p + 4) r (omega arith) (prefix_fine x env rs (walk_places n (slots e)) (10 * nodes p) op at v r row (fine x env rs e m vis st))
  fine x env rs (field_is {n = n} {p = p} {w = w} {v = v} {r = r} e row) m vis st =
      room x rs (walk_places n (slots e)) (10 * (1 + nodes p)) (10 * nodes p + 4) r (omega arith) (field_fine x env rs (walk_places n (slots e)) (10 * nodes p) w v.core v.type r row (fine x env rs e m vis st))
  fine x env rs (project_is {n = n} {at = at} {p = p} {names = names} {v = v} {r = r} e row) m vis st =
      room x rs (walk_places n (slots e)) (10 * (1 + nodes p)) (10 * nodes p + 4) r (omega arith) (project_fine x env rs (walk_places n (slots e)) (10 * nodes p) at names v.core v.type r m.0 row (fine x env rs e m.1 vis st))
  fine x env rs (rename_is {n = n} {at = at} {p = p} {names = names} {v = v} {r = r} e row) m vis st =
      room x rs (walk_places n (slots e)) (10 * (1 + nodes p)) (10 * nodes p) r (omega arith) (rename_fine x env rs (walk_places n (slots e)) (10 * nodes p) at names v.core v.type r row (fine x env rs e m vis st))
  fine x env rs (group_is {n = n} {at = at} {p = p} {by = by} {aggs = aggs} {v = v} {r = r} e row) m vis st =
      room x rs (walk_places n (slots e)) (10 * (1 + nodes p)) (10 * nodes p + 4) r (omega arith) (group_fine x env rs (walk_places n (slots e)) (10 * nodes p) at by aggs v.core v.type r m.0 row (fine x env rs e m.1 vis st))
  fine x env rs (test_is {n = n} {test = test} {at = at} {p = p} {v = v} {r = r} e row) m vis st =
      room x rs (walk_places n (slots e)) (10 * (1 + nodes p)) (10 * nodes p + 4) r (omega arith) (test_fine x env rs (walk_places n (slots e)) (10 * nodes p) test at v r row (fine x env rs e m vis st))
  fine x env rs (fold_is {n = n} {fold = fold} {at = at} {p = p} {w = w} {v = v} {r = r} e row) m vis st =
      room x rs (walk_places n (slots e)) (10 * (1 + nodes p)) (10 * nodes p + 4) r (omega arith) (fold_fine x env rs (walk_places n (slots e)) (10 * nodes p) fold at w v.core v.type r row (fine x env rs e m vis st))
  fine x env rs (bulk_is {n = n} {sign = sign} {w = w} {at = at} {p = p} {v = v} {r = r} e row) m vis st =
      room x rs (walk_places n (slots e)) (10 * (1 + nodes p)) (10 * nodes p + 4) r (omega arith) (bulk_fine x env rs (walk_places n (slots e)) (10 * nodes p) sign w at v r row (fine x env rs e m vis st))
  fine x env rs (part_is {n = n} {sign = sign} {w = w} {at = at} {p = p} {v = v} {r = r} e row) m vis st =
      room x rs (walk_places n (slots e)) (10 * (1 + nodes p)) (10 * nodes p + 4) r (omega arith) (part_fine x env rs (walk_places n (slots e)) (10 * nodes p) sign w at v r row (fine x env rs e m vis st))
  fine x env rs (call_is {n = n} {w = w} {args = args} {vs = vs} {r = r} e row) m vis st =
      let h = fine_all x env rs e m vis st in
      room x rs (walk_places n (slots_all e)) (10 * (1 + nodes_all args)) (10 * nodes_all args + 4) r (omega arith)
      (call_fine x env rs (walk_places n (slots_all e)) (10 * nodes_all args) w vs r row (fine_list x rs (walk_places n (slots_all e)) (10 * nodes_all args) (count_of args) vs h))
  fine x env rs (row_is {n = n} {at = at} {names = names} {args = args} {vs = vs} {r = r} e row) m vis st =
      let h = fine_all x env rs e m.2 vis st in
      room x rs (walk_places n (slots_all e)) (10 * (1 + nodes_all args)) (10 * nodes_all args + 4) r (omega arith)
      (row_fine x env rs (walk_places n (slots_all e)) (10 * nodes_all args) at names vs r m.0 (m.1 ∙ sym (list_many x rs (walk_places n (slots_all e)) (10 * nodes_all args) (count_of args) vs h)) row
      (fine_list x rs (walk_places n (slots_all e)) (10 * nodes_all args) (count_of args) vs h))
  fine x env rs (atom_is {n = n} {sign = sign} {w = w} {args = args} {vs = vs} {r = r} e row) m vis st =
      let h = fine_all x env rs e m vis st in
      room x rs (walk_places n (slots_all e)) (10 * (1 + nodes_all args)) (10 * nodes_all args + 8) r (omega arith)
      (atom_fine x env rs (walk_places n (slots_all e)) (10 * nodes_all args) sign w vs r row (fine_list x rs (walk_places n (slots_all e)) (10 * nodes_all args) (count_of args) vs h))
  fine x env rs (line_is {n = n} {w = w} {at = at} {args = args} {vs = vs} {r = r} e row) m vis st =
      let h = fine_all x env rs e m vis st in
      room x rs (walk_places n (slots_all e)) (10 * (1 + nodes_all args)) (10 * nodes_all args + 4) r (omega arith)
      (line_fine x env rs (walk_places n (slots_all e)) (10 * nodes_all args) w at vs r row (fine_list x rs (walk_places n (slots_all e)) (10 * nodes_all args) (count_of args) vs h))
  fine x env rs (lines_is {n = n} {w = w} {at = at} {args = args} {vs = vs} {r = r} e row) m vis st =
      let h = fine_all x env rs e m.1 vis st in
      room x rs (walk_places n (slots_all e)) (10 * (1 + nodes_all args)) (10 * nodes_all args + 4) r (omega arith)
      (lines_fine x env rs (walk_places n (slots_all e)) (10 * nodes_all args) w at vs r row (λ i k. lines_have w i k e m.0 tt) (fine_list x rs (walk_places n (slots_all e)) (10 * nodes_all args) (count_of args) vs h))
  fine x env rs (atoms_are {n = n} {at = at} {all = all} {vs = vs} e) m vis st =
      let h = fine_all x env rs e m.1 vis st in
      room x rs (walk_places n (slots_all e)) (10 * (1 + nodes_all all)) (10 * nodes_all all + 4) _ (omega arith)
      (atoms_fine x env rs (walk_places n (slots_all e)) (10 * nodes_all all) at vs (atoms_have e m.0 tt) (fine_list x rs (walk_places n (slots_all e)) (10 * nodes_all all) (count_of all) vs h))
  fine x env rs (operation_is {n = n} {p = p} {rest = rest} {v = v} {t = t} {is = is} e u) m vis st =
      let s = stand_both x.slots n (slots e) (slots_uses u) (slots_of p) (slots_many e) st in
      let f = fine x env rs e m.0 vis s.0 in
      let h = fine_uses x env rs u m.2.0 m.1 m.2.1 vis s.1 in
      let c = chain_fine x rs (walk_places n (slots e)) (walk_places (n + slots_of p) (slots_uses u)) (10 * nodes p) (10 * nodes_uses rest) m.2.0 v t h.news f h.steps h.walks h.gathers h.small in
      moved x rs (walk_places n (slots e) ++ walk_places (n + slots_of p) (slots_uses u)) (walk_places n (slots e ++ slots_uses u)) (10 * nodes p + 10 * nodes_uses rest) (10 * (nodes p + nodes_uses rest)) (typing t (chain_core v.core is))
      (sym (walk_places-append n (slots e) (slots_uses u) (slots_of p) (slots_many e))) (omega arith)
      (subst (λ (is : List Step). Fine x rs (walk_places n (slots e) ++ walk_places (n + slots_of p) (slots_uses u)) (10 * nodes p + 10 * nodes_uses rest) (typing t (chain_core v.core is))) (sym h.all_is) c)
  fine x env rs (pair_is {n = n} {at = at} {pair = pair} {p = p} {q = q} {v = v} {w = w} {r = r} e d row) m vis st =
      let s = stand_both x.slots n (slots e) (slots d) (slots_of p) (slots_many e) st in
      let f = fine x env rs e m.1 vis s.0 in
      let h = fine x env rs d m.2 vis s.1 in
      moved x rs (walk_places n (slots e) ++ walk_places (n + slots_of p) (slots d)) (walk_places n (slots e ++ slots d)) (10 * nodes p + 10 * nodes q + 4) (10 * (1 + nodes p + nodes q)) r
      (sym (walk_places-append n (slots e) (slots d) (slots_of p) (slots_many e))) (omega arith)
      (pair_fine x env rs (walk_places n (slots e)) (walk_places (n + slots_of p) (slots d)) (10 * nodes p) (10 * nodes q) pair at v w r m.0 row f h)
  fine x env rs (walk_is {ls = ls} {n = n} {walk = walk} {at = at} {var = var} {of = of} {body = body} {v = v} {b = b} {r = r} {l = l} e k d row) m vis st =
      let s = stand_both x.slots (n + 1) (slots e) (slots d) (slots_of of) (slots_many e) st.1 in
      let f = fine x env rs e m.0 vis s.0 in
      let w = walked_local (env_in x) ls var at n v.type l k in
      let here : Slot = walked l.shape (gathered walk l.shape b.type) in
      let slot : IsSlot (scope x) n (form_of l.shape) = slot_held x n here st.0 in
      let one = variable_visible x rs n var v.type l w f.good slot in
      let vis' : AllVisible x (n ∷ rs) (ls ++ l ∷ []) = visible_more x (n ∷ rs) ls l (visible_in x rs n ls vis) one in
      let h = fine x env (n ∷ rs) d m.1 vis' s.1 in
      let slot' : IsSlot (scope x) n (of_tuple (kinds_of w.schema)) = subst (λ (u : Shape). IsSlot (scope x) n (form_of u)) (sym w.shape_is) slot in
      let gathers : IsGathered (scope x) (gathers_in x) n (kinds_of (gathered walk (tuple w.schema) b.type)) =
      subst (λ (u : Shape). IsGathered (scope x) (gathers_in x) n (kinds_of (gathered walk u b.type))) (sym w.shape_is) (walk_gathers x n here (gathered walk l.shape b.type) st.0 refl) in
      moved x rs (n ∷ (walk_places (n + 1) (slots e) ++ walk_places (n + 1 + slots_of of) (slots d))) (n ∷ walk_places (n + 1) (slots e ++ slots d)) (10 * nodes of + 10 * nodes body + 2) (10 * (1 + nodes of + nodes body)) r
      (ap (λ zs. n ∷ zs) (sym (walk_places-append (n + 1) (slots e) (slots d) (slots_of of) (slots_many e)))) (omega arith)
      (walk_fine x rs (walk_places (n + 1) (slots e)) (walk_places (n + 1 + slots_of of) (slots d)) (10 * nodes of) (10 * nodes body) walk at n w.schema v b r w.over_is row slot' gathers f h)

  pub fine_all : {g : Env} (x : Inside g) (env : EnvIsGood x) (rs : List ℕ) {ls : List Local} {n : ℕ} {vs all : List Typing} {ps : Phrases} (e : ElabAll g ls n vs ps all) → AreMade ps → AllVisible x rs ls → Stand x.slots n (slots_all e) →
      FineMore x rs (walk_places n (slots_all e)) (10 * nodes_all ps) (count_of ps) vs all
  fine_all x env rs (none_are {vs = vs}) m vis st = record { news = []; all_is = sym (append-nil vs); many = refl; fine = record { of = tt; walks = refl; gathers = tt; small = omega arith } }
  fine_all x env rs (more_are {n = n} {p = p} {rest = rest} {v = v} {vs = vs} e es) m vis st =
      let s = stand_both x.slots n (slots e) (slots_all es) (slots_of p) (slots_many e) st in
      let f = fine x env rs e m.0 vis s.0 in
      let h = fine_all x env rs es m.1 vis s.1 in
      let a = f.small in
      let b = h.fine.small in
      record {
        news = v ∷ h.news;
        all_is = h.all_is ∙ append_assoc vs (v ∷ []) h.news;
        many = ap (λ k. suc k) h.many ∙ (let z : suc (count_of rest) ≡ 1 + count_of rest = omega arith in z);
        fine = record {
          of = (f.of, h.fine.of);
          walks = ap (λ zs. zs ++ walks_in_all (exprs_from h.news)) f.walks ∙ ap (λ zs. walk_places n (slots e) ++ zs) h.fine.walks ∙ sym (walk_places-append n (slots e) (slots_all es) (slots_of p) (slots_many e));
          gathers = (f.gathers, h.fine.gathers);
          small = omega (arith, a, b);
        };
      }

  pub fine_uses : {g : Env} (x : Inside g) (env : EnvIsGood x) (rs : List ℕ) {ls : List Local} {n : ℕ} {t t' : Shape} {us : Uses} {is all : List Step} (e : ElabUses g ls n t is us t' all) (l : Level) → UsesAreMade us → AreOfLevel l us →
      AllVisible x rs ls → Stand x.slots n (slots_uses e) → FineUses x rs (walk_places n (slots_uses e)) (10 * nodes_uses us) l t t' is all
  fine_uses x env rs (no_use_is {is = is}) l m k vis st = record { news = []; all_is = sym (append-nil is); steps = no_step; walks = refl; gathers = tt; small = omega arith }
  fine_uses x env rs (use_is {n = n} {at = at} {op = op} {p = p} {rest = rest} {v = v} {is = is} e j u) l m k vis st =
      let s = stand_both x.slots n (slots e) (slots_uses u) (slots_of p) (slots_many e) st in
      let f = fine x env rs e m.1 vis s.0 in
      let h = fine_uses x env rs u l m.2 k.1 vis s.1 in
      let a = f.small in
      let b = h.small in
      let i : Step = record { joint = op; at = at; arg = v.core } in
      record {
        news = i ∷ h.news;
        all_is = h.all_is ∙ append_assoc is (i ∷ []) h.news;
        steps = one_step v f.of m.0 k.0 j h.steps;
        walks = ap (λ zs. zs ++ walks_steps h.news) f.walks ∙ ap (λ zs. walk_places n (slots e) ++ zs) h.walks ∙ sym (walk_places-append n (slots e) (slots_uses u) (slots_of p) (slots_many e));
        gathers = (f.gathers, h.gathers);
        small = omega (arith, a, b);
      }
