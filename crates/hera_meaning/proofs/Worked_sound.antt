-- Two worked programs are sound.
use Rattle.std.proofs.Common.{◌≡◌, ℕ, zero, suc, true, List, [], ◌∷◌, Option, Some, None, slice_get, refl, ap, subst, inl, arith, lit<, lit≤}
use Rattle.std.proofs.lemmas.Option.{same_Some}
use Rattle.hera_meaning.specs.declared.trees.Op.TheVariants.{Lt, Add, Sub}
use Rattle.hera_meaning.specs.Trees.{local, chain, call, link, no_link, set_slot, Body_tree}
use Rattle.hera_meaning.specs.Forms.{Form, int_form, bool_form}
use Rattle.hera_meaning.specs.Sound.{Body_forms, Scope, IsCallee, IsBody, Sound, scope_of, IsOf, IsSound}
use Rattle.hera_meaning.specs.Catalogues.{IsCatalogue}
use Rattle.hera_meaning.specs.Run.{body_at}
use Rattle.hera_meaning.proofs.Worked.{int, one, counting, summing}

abbrev int_slot : Option Form → Body_forms
int_slot result = record { slots = int_form ∷ []; result = result }

abbrev no_slot : Body_forms
no_slot = record { slots = []; result = None }

no_relations : IsCatalogue []
no_relations = record { few = lit≤ tt; distinct = tt; decls = λ k d lt. absurd (omega arith) }

-- ---- int i = 0; while (i < 3) { i = i + 1; } print i;

abbrev counting_scope : Scope
counting_scope = scope_of counting [] (int_slot None ∷ []) (body_at counting.bodies 0) (int_slot None)

-- i = 0
starts : IsSound counting_scope [] [] [] (set_slot 0 (int 0))
starts = (int_form, refl, (refl, refl), refl)

-- i < 3
tests : IsOf counting_scope (0 ∷ []) (chain (local 0) (link Lt (int 3) 0 no_link)) bool_form
tests = (int_form, (refl, refl), (int_form, bool_form, (refl, refl), record { good = refl; forms = (inl refl, refl) }, refl))

-- i = i + 1
steps : IsSound counting_scope (0 ∷ []) (0 ∷ []) [] (set_slot 0 (chain (local 0) (link Add (int 1) 0 no_link)))
steps = (int_form, refl, (int_form, (refl, refl), (int_form, int_form, (refl, refl), record { good = refl; forms = (refl, refl) }, refl)), refl)

counting_main : IsBody counting_scope (body_at counting.bodies 0)
counting_main = record {
  params = lit≤ tt;
  slots = refl;
  result = refl;
  returning = λ e. cc;
  walks_new = λ k d lt. absurd (omega arith);
  walks_apart = tt;
  block = (starts, ((tests, (steps, tt)), (((refl, refl), refl), tt)));
}

counting_is_sound : Sound counting []
counting_is_sound = record {
  forms = int_slot None ∷ [];
  shaped = record {
    relations = no_relations;
    specs = λ k d lt. absurd (omega arith);
    main = record { body = body_at counting.bodies 0; here = refl; func = refl; params = refl };
    many = refl;
    bodies = bodies;
    size = lit< tt;
  };
}
  where
    bodies : (k : ℕ) (b : Body_tree) (own : Body_forms) → slice_get counting.bodies k ≡ Some b → slice_get (int_slot None ∷ []) k ≡ Some own → IsBody (scope_of counting [] (int_slot None ∷ []) b own) b
    bodies zero b own e f =
        subst (λ (c : Body_tree). IsBody (scope_of counting [] (int_slot None ∷ []) c own) c) (same_Some _ _ e)
        (subst (λ (o : Body_forms). IsBody (scope_of counting [] (int_slot None ∷ []) (body_at counting.bodies 0) o) (body_at counting.bodies 0)) (same_Some _ _ f) counting_main)
    bodies (suc k) b own e f = cc

-- ---- func int f(int n) { if (n < 1) { return 0; } return n + f(n - 1); } main { print f(3); }

abbrev summing_forms : List Body_forms
summing_forms = no_slot ∷ int_slot (Some int_form) ∷ []

abbrev main_scope : Scope
main_scope = scope_of summing [] summing_forms (body_at summing.bodies 0) no_slot

abbrev func_scope : Scope
func_scope = scope_of summing [] summing_forms (body_at summing.bodies 1) (int_slot (Some int_form))

calls_f : (sc : Scope) → sc.bodies ≡ summing.bodies → sc.forms ≡ summing_forms → IsCallee sc 1 true (int_form ∷ []) (Some int_form)
calls_f sc e f = record {
  body = body_at summing.bodies 1;
  forms = int_slot (Some int_form);
  behind_main = lit≤ tt;
  body_is = ap (λ (bodies : List Body_tree). slice_get bodies 1) e;
  forms_are = ap (λ (forms : List Body_forms). slice_get forms 1) f;
  func_is = refl;
  params_are = refl;
  result_is = refl;
}

summing_main : IsBody main_scope (body_at summing.bodies 0)
summing_main = record {
  params = lit≤ tt;
  slots = refl;
  result = refl;
  returning = λ e. cc;
  walks_new = λ k d lt. absurd (omega arith);
  walks_apart = tt;
  block = (((int_form ∷ [], ((refl, refl), tt), calls_f main_scope refl refl), refl), tt);
}

-- n - 1
lesser : IsOf func_scope (0 ∷ []) (chain (local 0) (link Sub (int 1) 0 no_link)) int_form
lesser = (int_form, (refl, refl), (int_form, int_form, (refl, refl), record { good = refl; forms = (refl, refl) }, refl))

-- n + f(n - 1)
added : IsOf func_scope (0 ∷ []) (chain (local 0) (link Add (call 1 (one (chain (local 0) (link Sub (int 1) 0 no_link)))) 0 no_link)) int_form
added =
    (int_form, (refl, refl), (int_form, int_form, (int_form ∷ [], (lesser, tt), calls_f func_scope refl refl), record { good = refl; forms = (refl, refl) }, refl))

-- n < 1
ends : IsOf func_scope (0 ∷ []) (chain (local 0) (link Lt (int 1) 0 no_link)) bool_form
ends = (int_form, (refl, refl), (int_form, bool_form, (refl, refl), record { good = refl; forms = (inl refl, refl) }, refl))

summing_func : IsBody func_scope (body_at summing.bodies 1)
summing_func = record {
  params = lit≤ tt;
  slots = refl;
  result = refl;
  returning = λ e. refl;
  walks_new = λ k d lt. absurd (omega arith);
  walks_apart = tt;
  block = (((ends, ((int_form, (refl, refl), refl, refl), tt), tt), tt), ((int_form, added, refl, refl), tt));
}

summing_is_sound : Sound summing []
summing_is_sound = record {
  forms = summing_forms;
  shaped = record {
    relations = no_relations;
    specs = λ k d lt. absurd (omega arith);
    main = record { body = body_at summing.bodies 0; here = refl; func = refl; params = refl };
    many = refl;
    bodies = bodies;
    size = lit< tt;
  };
}
  where
    both : (b c : Body_tree) (own other : Body_forms) → b ≡ c → own ≡ other → IsBody (scope_of summing [] summing_forms b own) b → IsBody (scope_of summing [] summing_forms c other) c
    both b c own other e f h =
        subst (λ (x : Body_tree). IsBody (scope_of summing [] summing_forms x other) x) e
        (subst (λ (o : Body_forms). IsBody (scope_of summing [] summing_forms b o) b) f h)

    bodies : (k : ℕ) (b : Body_tree) (own : Body_forms) → slice_get summing.bodies k ≡ Some b → slice_get summing_forms k ≡ Some own → IsBody (scope_of summing [] summing_forms b own) b
    bodies zero b own e f = both (body_at summing.bodies 0) b no_slot own (same_Some _ _ e) (same_Some _ _ f) summing_main
    bodies (suc zero) b own e f = both (body_at summing.bodies 1) b (int_slot (Some int_form)) own (same_Some _ _ e) (same_Some _ _ f) summing_func
    bodies (suc (suc k)) b own e f = cc
