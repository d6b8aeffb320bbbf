-- The function of typing answers what the relations say; so each is one at most, and not both.
use Rattle.std.proofs.Common.{◌≡◌, ℕ, List, refl, sym, ◌∙◌}
use Rattle.std.specs.Prelude.{Ok, Err}
use Rattle.hera_meaning.specs.declared.trees.Shape.{Shape}
use Rattle.hera_rules.specs.declared.env.Local.{Local}
use Rattle.hera_rules.specs.declared.fault.TypeFault.{TypeFault}
use Rattle.hera_rules.specs.Environments.{Env}
use Rattle.hera_rules.specs.Phrases.{Phrase, Phrases, Uses}
use Rattle.hera_rules.specs.Rules.{Typing, Step}
use Rattle.hera_rules.specs.Typing.{Elab, ElabAll, ElabUses, Broken, First, FirstAll, FirstUses, literal_is, name_is, operation_is, atoms_are, pair_is, walk_is, none_are, more_are, no_use_is, use_is, name_breaks, pair_breaks, variable_breaks, walk_breaks, here, in_first, in_rest, in_atoms, in_left, in_right, in_range, in_body, in_this, in_others, in_operand, use_breaks, in_later, prefix_is, prefix_breaks, in_prefix, field_is, field_breaks, in_field, project_is, project_breaks, in_project, rename_is, rename_breaks, in_rename, group_is, group_breaks, in_group, test_is, test_breaks, in_test, fold_is, fold_breaks, in_fold, bulk_is, bulk_breaks, in_bulk, part_is, part_breaks, in_part, call_is, call_breaks, in_call, row_is, row_breaks, in_row, atom_is, atom_breaks, in_atom, line_is, line_breaks, in_line, lines_is, lines_breaks, in_lines}
use Rattle.hera_rules.specs.Checked.{check, check_all, check_uses}

mutual
  pub check-Elab : {g : Env} {ls : List Local} {n : ℕ} {p : Phrase} {v : Typing} → Elab g ls n p v → check g ls n p ≡ Ok v
  check-Elab literal_is = refl
  check-Elab (name_is r) = r
  check-Elab (operation_is e u) = rw (check-Elab e, check_uses-Elab u) refl
  check-Elab (atoms_are e) = rw (check_all-Elab e) refl
  check-Elab (pair_is e d r) = rw (check-Elab e, check-Elab d) r
  check-Elab (walk_is e b d r) = rw (check-Elab e, b, check-Elab d) r
  check-Elab (prefix_is e r) = rw (check-Elab e) r
  check-Elab (field_is e r) = rw (check-Elab e) r
  check-Elab (project_is e r) = rw (check-Elab e) r
  check-Elab (rename_is e r) = rw (check-Elab e) r
  check-Elab (group_is e r) = rw (check-Elab e) r
  check-Elab (test_is e r) = rw (check-Elab e) r
  check-Elab (fold_is e r) = rw (check-Elab e) r
  check-Elab (bulk_is e r) = rw (check-Elab e) r
  check-Elab (part_is e r) = rw (check-Elab e) r
  check-Elab (call_is e r) = rw (check_all-Elab e) r
  check-Elab (row_is e r) = rw (check_all-Elab e) r
  check-Elab (atom_is e r) = rw (check_all-Elab e) r
  check-Elab (line_is e r) = rw (check_all-Elab e) r
  check-Elab (lines_is e r) = rw (check_all-Elab e) r

  pub check_all-Elab : {g : Env} {ls : List Local} {n : ℕ} {vs all : List Typing} {ps : Phrases} → ElabAll g ls n vs ps all → check_all g ls n vs ps ≡ Ok all
  check_all-Elab none_are = refl
  check_all-Elab (more_are e es) = rw (check-Elab e) (check_all-Elab es)

  pub check_uses-Elab : {g : Env} {ls : List Local} {n : ℕ} {t r : Shape} {us : Uses} {is all : List Step} → ElabUses g ls n t is us r all → check_uses g ls n t is us ≡ Ok (record { type = r; steps = all })
  check_uses-Elab no_use_is = refl
  check_uses-Elab (use_is e j u) = rw (check-Elab e, j) (check_uses-Elab u)

check-Broken : {g : Env} {ls : List Local} {n : ℕ} {p : Phrase} {f : TypeFault} → Broken g ls n p f → check g ls n p ≡ Err f
check-Broken (name_breaks r) = r
check-Broken (pair_breaks e d r) = rw (check-Elab e, check-Elab d) r
check-Broken (variable_breaks e b) = rw (check-Elab e, b) refl
check-Broken (walk_breaks e b d r) = rw (check-Elab e, b, check-Elab d) r
check-Broken (prefix_breaks e r) = rw (check-Elab e) r
check-Broken (field_breaks e r) = rw (check-Elab e) r
check-Broken (project_breaks e r) = rw (check-Elab e) r
check-Broken (rename_breaks e r) = rw (check-Elab e) r
check-Broken (group_breaks e r) = rw (check-Elab e) r
check-Broken (test_breaks e r) = rw (check-Elab e) r
check-Broken (fold_breaks e r) = rw (check-Elab e) r
check-Broken (bulk_breaks e r) = rw (check-Elab e) r
check-Broken (part_breaks e r) = rw (check-Elab e) r
check-Broken (call_breaks e r) = rw (check_all-Elab e) r
check-Broken (row_breaks e r) = rw (check_all-Elab e) r
check-Broken (atom_breaks e r) = rw (check_all-Elab e) r
check-Broken (line_breaks e r) = rw (check_all-Elab e) r
check-Broken (lines_breaks e r) = rw (check_all-Elab e) r

mutual
  pub check-First : {g : Env} {ls : List Local} {n : ℕ} {p : Phrase} {f : TypeFault} → First g ls n p f → check g ls n p ≡ Err f
  check-First (here b) = check-Broken b
  check-First (in_first d) = rw (check-First d) refl
  check-First (in_rest e d) = rw (check-Elab e, check_uses-First d) refl
  check-First (in_atoms d) = rw (check_all-First d) refl
  check-First (in_left d) = rw (check-First d) refl
  check-First (in_right e d) = rw (check-Elab e, check-First d) refl
  check-First (in_range d) = rw (check-First d) refl
  check-First (in_body e b d) = rw (check-Elab e, b, check-First d) refl
  check-First (in_prefix d) = rw (check-First d) refl
  check-First (in_field d) = rw (check-First d) refl
  check-First (in_project d) = rw (check-First d) refl
  check-First (in_rename d) = rw (check-First d) refl
  check-First (in_group d) = rw (check-First d) refl
  check-First (in_test d) = rw (check-First d) refl
  check-First (in_fold d) = rw (check-First d) refl
  check-First (in_bulk d) = rw (check-First d) refl
  check-First (in_part d) = rw (check-First d) refl
  check-First (in_call d) = rw (check_all-First d) refl
  check-First (in_row d) = rw (check_all-First d) refl
  check-First (in_atom d) = rw (check_all-First d) refl
  check-First (in_line d) = rw (check_all-First d) refl
  check-First (in_lines d) = rw (check_all-First d) refl

  pub check_all-First : {g : Env} {ls : List Local} {n : ℕ} {vs : List Typing} {ps : Phrases} {f : TypeFault} → FirstAll g ls n vs ps f → check_all g ls n vs ps ≡ Err f
  check_all-First (in_this d) = rw (check-First d) refl
  check_all-First (in_others e d) = rw (check-Elab e) (check_all-First d)

  pub check_uses-First : {g : Env} {ls : List Local} {n : ℕ} {t : Shape} {us : Uses} {is : List Step} {f : TypeFault} → FirstUses g ls n t is us f → check_uses g ls n t is us ≡ Err f
  check_uses-First (in_operand d) = rw (check-First d) refl
  check_uses-First (use_breaks e j) = rw (check-Elab e, j) refl
  check_uses-First (in_later e j d) = rw (check-Elab e, j) (check_uses-First d)

pub one_typing : {g : Env} {ls : List Local} {n : ℕ} {p : Phrase} {v w : Typing} → Elab g ls n p v → Elab g ls n p w → v ≡ w
one_typing e e' = let h = sym (check-Elab e) ∙ check-Elab e' in cc

pub never_both : {g : Env} {ls : List Local} {n : ℕ} {p : Phrase} {v : Typing} {f : TypeFault} → Elab g ls n p v → First g ls n p f → ⊥
never_both e d = let h = sym (check-Elab e) ∙ check-First d in cc

pub one_fault : {g : Env} {ls : List Local} {n : ℕ} {p : Phrase} {f f' : TypeFault} → First g ls n p f → First g ls n p f' → f ≡ f'
one_fault d d' = let h = sym (check-First d) ∙ check-First d' in cc
