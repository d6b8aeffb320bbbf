-- The turns of the passes over global names: each list is gone through from the left.
use Rattle.std.proofs.Common.{◌≡◌, ℕ, ◌+◌, ◌<◌, ◌≤◌, List, [], ◌∷◌, ◌++◌, length, get_or, drop, map, sym, ap, ◌∙◌}
use Rattle.std.specs.Prelude.{Ok, Err}
use Rattle.hera_meaning.specs.declared.schemas.RelDecl.{RelDecl}
use Rattle.hera_rules.specs.declared.words.Word.{Word}
use Rattle.hera_rules.specs.declared.env.FuncSig.{FuncSig}
use Rattle.hera_rules.specs.declared.env.ProcSig.{ProcSig}
use Rattle.hera_rules.specs.declared.fault.TypeFault.{TypeFault}
use Rattle.hera_rules.specs.Phrases.{Relation_phrase, Func_phrase, Proc_phrase}
use Rattle.hera_rules.specs.Commands.{fields_row}
use Rattle.hera_rules.specs.Checked.{and_then}
use Rattle.hera_rules.specs.Programs.{relation_name, relations_row, new_name_row, names_row, func_row, funcs_row, proc_row, procs_row}
use Rattle.hera_types_parts.proofs.Giving.{next_at, none_at, and_then-assoc}
use Rattle.hera_types_globals.specs.Passes.{relation_row}

-- a row of relations, one declaration at a time
relations_first : (rels : List RelDecl) (p : Relation_phrase) (ps : List Relation_phrase) → relations_row rels (p ∷ ps) ≡ and_then (relation_row rels p) (λ d. relations_row (rels ++ d ∷ []) ps)
relations_first rels p ps =
    sym (and_then-assoc (fields_row [] p.attrs) (λ attrs. and_then (relation_name rels p.name) (λ name. Ok (record { name = name; schema = attrs }))) (λ d. relations_row (rels ++ d ∷ []) ps)
    ∙ (λ i. and_then (fields_row [] p.attrs) (λ attrs. and_then-assoc (relation_name rels p.name) (λ name. Ok (record { name = name; schema = attrs })) (λ d. relations_row (rels ++ d ∷ []) ps) i)))

module _ {A : Type 0} (f : A → Relation_phrase) (xs : List A) (i : ℕ) (x : A) (rels : List RelDecl) where
  pub relations_turn : {d : RelDecl} {rels' : List RelDecl} → i < length xs → x ≡ get_or xs i x → relation_row rels (f x) ≡ Ok d → rels' ≡ rels ++ d ∷ [] →
      relations_row rels (map f (drop i xs)) ≡ relations_row rels' (map f (drop (i + 1) xs))
  relations_turn h e k s = ap (λ ys. relations_row rels (map f ys)) (next_at xs i x h e) ∙ relations_first rels (f x) _ ∙ ap (λ r. and_then r (λ d. relations_row (rels ++ d ∷ []) (map f (drop (i + 1) xs)))) k
      ∙ ap (λ r. relations_row r (map f (drop (i + 1) xs))) (sym s)

  pub relations_stop : {fault : TypeFault} → i < length xs → x ≡ get_or xs i x → relation_row rels (f x) ≡ Err fault → relations_row rels (map f (drop i xs)) ≡ Err fault
  relations_stop h e k = ap (λ ys. relations_row rels (map f ys)) (next_at xs i x h e) ∙ relations_first rels (f x) _ ∙ ap (λ r. and_then r (λ d. relations_row (rels ++ d ∷ []) (map f (drop (i + 1) xs)))) k

pub relations_end : {A : Type 0} (f : A → Relation_phrase) (xs : List A) (i : ℕ) (rels : List RelDecl) → length xs ≤ i → relations_row rels (map f (drop i xs)) ≡ Ok rels
relations_end f xs i rels h = ap (λ ys. relations_row rels (map f ys)) (none_at xs i h)

module _ {A : Type 0} (f : A → Word) (xs : List A) (i : ℕ) (x : A) (seen : List (List ℕ)) where
  pub names_turn : {a : List ℕ} {seen' : List (List ℕ)} → i < length xs → x ≡ get_or xs i x → new_name_row seen (f x) ≡ Ok a → seen' ≡ seen ++ a ∷ [] →
      names_row seen (map f (drop i xs)) ≡ names_row seen' (map f (drop (i + 1) xs))
  names_turn h e k s = ap (λ ys. names_row seen (map f ys)) (next_at xs i x h e) ∙ ap (λ r. and_then r (λ a. names_row (seen ++ a ∷ []) (map f (drop (i + 1) xs)))) k
      ∙ ap (λ r. names_row r (map f (drop (i + 1) xs))) (sym s)

  pub names_stop : {fault : TypeFault} → i < length xs → x ≡ get_or xs i x → new_name_row seen (f x) ≡ Err fault → names_row seen (map f (drop i xs)) ≡ Err fault
  names_stop h e k = ap (λ ys. names_row seen (map f ys)) (next_at xs i x h e) ∙ ap (λ r. and_then r (λ a. names_row (seen ++ a ∷ []) (map f (drop (i + 1) xs)))) k

pub names_end : {A : Type 0} (f : A → Word) (xs : List A) (i : ℕ) (seen : List (List ℕ)) → length xs ≤ i → names_row seen (map f (drop i xs)) ≡ Ok seen
names_end f xs i seen h = ap (λ ys. names_row seen (map f ys)) (none_at xs i h)

module _ {A : Type 0} (f : A → Func_phrase) (xs : List A) (i : ℕ) (x : A) (rels : List RelDecl) (taken : List (List ℕ)) (seen : List FuncSig) where
  pub funcs_turn : {a : FuncSig} {seen' : List FuncSig} → i < length xs → x ≡ get_or xs i x → func_row rels taken (1 + length seen) (f x) ≡ Ok a → seen' ≡ seen ++ a ∷ [] →
      funcs_row rels taken seen (map f (drop i xs)) ≡ funcs_row rels taken seen' (map f (drop (i + 1) xs))
  funcs_turn h e k s = ap (λ ys. funcs_row rels taken seen (map f ys)) (next_at xs i x h e) ∙ ap (λ r. and_then r (λ a. funcs_row rels taken (seen ++ a ∷ []) (map f (drop (i + 1) xs)))) k
      ∙ ap (λ r. funcs_row rels taken r (map f (drop (i + 1) xs))) (sym s)

  pub funcs_stop : {fault : TypeFault} → i < length xs → x ≡ get_or xs i x → func_row rels taken (1 + length seen) (f x) ≡ Err fault → funcs_row rels taken seen (map f (drop i xs)) ≡ Err fault
  funcs_stop h e k = ap (λ ys. funcs_row rels taken seen (map f ys)) (next_at xs i x h e) ∙ ap (λ r. and_then r (λ a. funcs_row rels taken (seen ++ a ∷ []) (map f (drop (i + 1) xs)))) k

pub funcs_end : {A : Type 0} (f : A → Func_phrase) (xs : List A) (i : ℕ) (rels : List RelDecl) (taken : List (List ℕ)) (seen : List FuncSig) → length xs ≤ i → funcs_row rels taken seen (map f (drop i xs)) ≡ Ok seen
funcs_end f xs i rels taken seen h = ap (λ ys. funcs_row rels taken seen (map f ys)) (none_at xs i h)

module _ {A : Type 0} (f : A → Proc_phrase) (xs : List A) (i : ℕ) (x : A) (rels : List RelDecl) (taken : List (List ℕ)) (funcs : ℕ) (seen : List ProcSig) where
  pub procs_turn : {a : ProcSig} {seen' : List ProcSig} → i < length xs → x ≡ get_or xs i x → proc_row rels taken (1 + funcs + length seen) (f x) ≡ Ok a → seen' ≡ seen ++ a ∷ [] →
      procs_row rels taken funcs seen (map f (drop i xs)) ≡ procs_row rels taken funcs seen' (map f (drop (i + 1) xs))
  procs_turn h e k s = ap (λ ys. procs_row rels taken funcs seen (map f ys)) (next_at xs i x h e) ∙ ap (λ r. and_then r (λ a. procs_row rels taken funcs (seen ++ a ∷ []) (map f (drop (i + 1) xs)))) k
      ∙ ap (λ r. procs_row rels taken funcs r (map f (drop (i + 1) xs))) (sym s)

  pub procs_stop : {fault : TypeFault} → i < length xs → x ≡ get_or xs i x → proc_row rels taken (1 + funcs + length seen) (f x) ≡ Err fault → procs_row rels taken funcs seen (map f (drop i xs)) ≡ Err fault
  procs_stop h e k = ap (λ ys. procs_row rels taken funcs seen (map f ys)) (next_at xs i x h e) ∙ ap (λ r. and_then r (λ a. procs_row rels taken funcs (seen ++ a ∷ []) (map f (drop (i + 1) xs)))) k

pub procs_end : {A : Type 0} (f : A → Proc_phrase) (xs : List A) (i : ℕ) (rels : List RelDecl) (taken : List (List ℕ)) (funcs : ℕ) (seen : List ProcSig) → length xs ≤ i → procs_row rels taken funcs seen (map f (drop i xs)) ≡ Ok seen
procs_end f xs i rels taken funcs seen h = ap (λ ys. procs_row rels taken funcs seen (map f ys)) (none_at xs i h)
