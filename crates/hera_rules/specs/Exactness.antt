-- The laws of typing, as the clause of a function names them.
use Rattle.std.specs.Prelude.{◌≡◌, ℕ, List, ◌⊎◌}
use Rattle.hera_meaning.specs.Trees.{Program_tree}
use Rattle.hera_host.specs.Tables.{Host}
use Rattle.hera_rules.specs.declared.env.Local.{Local}
use Rattle.hera_rules.specs.declared.fault.TypeFault.{TypeFault}
use Rattle.hera_rules.specs.Environments.{Env}
use Rattle.hera_rules.specs.Phrases.{Phrase, Script}
use Rattle.hera_rules.specs.Rules.{Typing}
use Rattle.hera_rules.specs.Typing.{Elab, First}
use Rattle.hera_rules.specs.Programs.{ElabScript, FirstFault}

-- a phrase has one type and core at most, one first fault at most, and exactly one of both
pub record PhrasesAreDecided : Type 0 where
  pub one_typing : (g : Env) (ls : List Local) (n : ℕ) (p : Phrase) (v w : Typing) → Elab g ls n p v → Elab g ls n p w → v ≡ w
  pub one_fault : (g : Env) (ls : List Local) (n : ℕ) (p : Phrase) (f f' : TypeFault) → First g ls n p f → First g ls n p f' → f ≡ f'
  pub never_both : (g : Env) (ls : List Local) (n : ℕ) (p : Phrase) (v : Typing) (f : TypeFault) → Elab g ls n p v → First g ls n p f → ⊥
  pub always_one : (g : Env) (ls : List Local) (n : ℕ) (p : Phrase) → ((v : Typing) × Elab g ls n p v) ⊎ ((f : TypeFault) × First g ls n p f)

-- a script has one program at most, one first fault at most, and exactly one of both
pub record ScriptsAreDecided : Type 0 where
  pub one_program : (hosts : List Host) (s : Script) (p q : Program_tree) → ElabScript hosts s p → ElabScript hosts s q → p ≡ q
  pub one_fault : (hosts : List Host) (s : Script) (f f' : TypeFault) → FirstFault hosts s f → FirstFault hosts s f' → f ≡ f'
  pub never_both : (hosts : List Host) (s : Script) (p : Program_tree) (f : TypeFault) → ElabScript hosts s p → FirstFault hosts s f → ⊥
  pub always_one : (hosts : List Host) (s : Script) → ((p : Program_tree) × ElabScript hosts s p) ⊎ ((f : TypeFault) × FirstFault hosts s f)
